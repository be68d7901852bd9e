use Rattle.std.proofs.Common.{◌≡◌, ◌≢◌, ◌∙◌, ◌++◌, ◌∷◌, [], List, ℕ, All, ap, sym, subst}
use Rattle.std.proofs.lemmas.List.{map-append}
use Rattle.std.proofs.lemmas.List.Elements.{All-push}
use Rattle.pauli_basis.specs.Pauli.{PauliString}
use Rattle.meet_middle.specs.Halves.{spelled}
use Rattle.tcount_top.specs.Printed.{codes_of}
use Rattle.tcount_top.proofs.Letters.{take_letter}
use Rattle.tcount_top.proofs.print.letters_of.Goals as goal

pub loop-i-preserved : goal.loop-i-preserved
loop-i-preserved c =
    let old = c.loop-i.letters.items in
    let p : PauliString = c.letter.result in
    let w = c.args.word.now in
    let is = c.in_ok-push.ensures.items in
    let i = c.loop-i.invariant in
    record {
      qubits = subst (All (λ (x : PauliString). x.qubits ≡ w.first.qubits)) (sym is) (All-push (λ (x : PauliString). x.qubits ≡ w.first.qubits) old p i.qubits c.letter.ensures.qubits);
      other = subst (All (λ (x : PauliString). x.code ≢ 0)) (sym is) (All-push (λ (x : PauliString). x.code ≢ 0) old p i.other c.letter.ensures.other);
      codes =
          ap codes_of is
          ∙ (map-append (λ (x : PauliString). x.code) old (p ∷ [])
          ∙ (ap (λ (l : List ℕ). l ++ p.code ∷ []) i.codes ∙ sym (take_letter (spelled w.first.letters w.middle w.last.letters) c.loop-i.i p.code c.letter.ensures.code)));
    }
