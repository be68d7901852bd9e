use Rattle.std.proofs.Common.{rules, ◌≡◌, ◌∙◌, ap, sym, refl, length}
use Rattle.std.proofs.lemmas.List.{length-map}
use Rattle.coset_label.specs.Words.{RotationWord}
use Rattle.level_store.specs.InOrder.{qubits_of, len_of}
use Rattle.level_store.specs.Stored.{words_of}
use Rattle.level_store.proofs.Starts.{level_is}
use Rattle.level_store.proofs.level.Level.count.Goals as goal

pub returns-clause-level : goal.returns-clause-level
returns-clause-level c =
    let l = c.args.self.now in
    let long : c.len.result ≡ length (words_of l) = search rules in
    long ∙ sym (length-map (words_of l) (λ (w : RotationWord). w.letters)) ∙ ap length (level_is (qubits_of l) (len_of l) l (record { qubits = refl; len = refl }))
