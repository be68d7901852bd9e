use Rattle.std.proofs.Common.{◌↔◌, IsTrue, sym, ◌∙◌, subst}
use Rattle.channel_rep.specs.Cells.{scaled}
use Rattle.channel_rep.specs.Tables.{IsBuiltOf, IsCircuitChannel}
use Rattle.coset_label.specs.Cosets.{SameCoset}
use Rattle.coset_label.specs.Words.{word_steps, word_channel}
use Rattle.coset_words.proofs.Rests.{words_told}
use Rattle.coset_words.proofs.comparison.of_one_coset.Goals as goal

pub returns-clause-coset : goal.returns-clause-coset
returns-clause-coset c =
    let n = c.args.v.qubits in
    let w = c.args.w.letters in
    let m = scaled c.reduce.new.self in
    let made = c.narrow_of_word.ensures in
    let steps = word_steps c.args.v.letters in
    let built = c.reduce.ensures.built steps (subst (λ k. IsBuiltOf k steps (scaled c.narrow_of_word.new.narrow)) (sym made.qubits) made.built) in
    words_told n c.args.v.letters w made.valid.word m (subst (λ k. IsBuiltOf k steps m) (made.qubits ∙ c.requires.room) built) c.lies_in_coset.result
    (subst (λ k. IsCircuitChannel k m → IsTrue c.lies_in_coset.result ↔ SameCoset k m (word_channel k w)) (sym c.requires.same) c.lies_in_coset.ensures.coset)
