use Rattle.std.proofs.Common.{◌≡◌, sym, ◌∙◌, subst}
use Rattle.coset_label.specs.Labels.{IsLabelOfWord}
use Rattle.coset_words.specs.Marks.{IsMarkOf}
use Rattle.coset_table.proofs.tests.offer_each.Goals as goal

pub offer-requires-clause-mark : goal.offer-requires-clause-mark
offer-requires-clause-mark c =
    let word = c.index-words-place.result in
    let made = c.label_of_word.ensures in
    let e : word.qubits ≡ c.label_of_word.new.s.qubits = sym c.qubits.ensures.value ∙ c.if-qubits-eq2.true ∙ sym c.loop-place.invariant.label ∙ sym made.qubits in
    subst (λ q. IsMarkOf q word.letters c.mark_of.result) (sym e) (c.mark_of.ensures word.letters (subst (λ q. IsLabelOfWord q word.letters c.label_of_word.new.s.label) e made.label))
