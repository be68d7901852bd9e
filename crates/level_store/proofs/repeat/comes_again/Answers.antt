use Rattle.std.proofs.Common.{◌≡◌, ◌≢◌, ◌≤◌, true, false, length, ap, sym, ◌∙◌, arith}
use Rattle.pauli_basis.specs.Products.{commute}
use Rattle.coset_words.proofs.Fronts.{one_code}
use Rattle.level_store.proofs.Repeats.{other_code, found_again, stopped_again, passed_again, ended_again}
use Rattle.level_store.proofs.repeat.comes_again.Goals as goal

pub loop-i-init : goal.loop-i-init
loop-i-init c = (λ a. a, λ a. a)

pub loop-i-preserved : goal.loop-i-preserved
loop-i-preserved c =
    let n = c.args.word.qubits in
    let p = c.args.letter.code in
    let q = c.letter-other.result.code in
    let apart : q ≢ p = other_code c.letter-other.result.qubits c.args.letter.qubits q p (c.letter-other.ensures.qubits ∙ sym c.requires) (sym c.eq.ensures ∙ c.if-eq.false) in
    let commutes : commute n p q ≡ true = ap (λ k. commute k p q) (sym c.requires) ∙ (sym c.commutes.ensures.value ∙ c.if-not-commutes.false) in
    passed_again n p c.args.word.letters c.loop-i.i c.loop-i.invariant q c.letter-other.ensures.code apart commutes

pub returns-then-eq : goal.returns-then-eq
returns-then-eq c =
    let p = c.args.letter.code in
    let q = c.letter-other.result.code in
    found_again c.args.word.qubits p c.args.word.letters c.loop-i.i c.loop-i.invariant q c.letter-other.ensures.code (one_code _ q p (sym c.eq.ensures ∙ c.if-eq.true))

pub returns-then-not-commutes : goal.returns-then-not-commutes
returns-then-not-commutes c =
    let n = c.args.word.qubits in
    let p = c.args.letter.code in
    let q = c.letter-other.result.code in
    let apart : q ≢ p = other_code c.letter-other.result.qubits c.args.letter.qubits q p (c.letter-other.ensures.qubits ∙ sym c.requires) (sym c.eq.ensures ∙ c.if-eq.false) in
    let anti : commute n p q ≡ false = ap (λ k. commute k p q) (sym c.requires) ∙ (sym c.commutes.ensures.value ∙ c.if-not-commutes.true) in
    stopped_again n p c.args.word.letters c.loop-i.i c.loop-i.invariant q c.letter-other.ensures.code apart anti

pub returns : goal.returns
returns c =
    let past : length c.args.word.letters ≤ c.loop-i.i = omega (arith, c.loop-i-test.false, c.len-i-end.ensures.value) in
    ended_again c.args.word.qubits c.args.letter.code c.args.word.letters c.loop-i.i c.loop-i.invariant past
