use Rattle.std.proofs.Common.{◌≡◌, ◌≤◌, ◌+◌, true≢false, length, drop, ap, sym, ◌∙◌, subst, arith, length-drop}
use Rattle.std.proofs.Math.Seq.{drop-length}
use Rattle.channel_rep.specs.Cells.{scaled}
use Rattle.coset_label.specs.Cosets.{SameCoset}
use Rattle.coset_label.specs.Words.{word_channel}
use Rattle.coset_words.proofs.Fronts.{drop_at, letter_is}
use Rattle.coset_words.proofs.Rests.{circuit_left, coset_left, letter_taken, exponent_low, permutation_coset}
use Rattle.coset_words.proofs.comparison.lies_in_coset.Goals as goal

pub returns-then-exponent-len-clause-coset : goal.returns-then-exponent-len-clause-coset
returns-then-exponent-len-clause-coset c circuit =
    let n = c.args.word.qubits in
    let rest = drop c.loop-i.i c.args.word.letters in
    let inv = c.loop-i.invariant in (
      λ f. absurd (true≢false (sym f)),
      λ same. absurd (
          let low : c.loop-i.narrow.exponent ≤ length rest = exponent_low n c.loop-i.narrow inv.qubits inv.reduced rest (inv.coset.0 same) in
          omega (arith, low, length-drop c.loop-i.i c.args.word.letters, c.exponent.ensures.value, c.len.ensures.value, c.if-exponent-len.true)),
    )

pub loop-i-preserved : goal.loop-i-preserved
loop-i-preserved c =
    let n = c.args.word.qubits in
    let letters = c.args.word.letters in
    let i = c.loop-i.i in
    let p = c.letter.result.code in
    let m = scaled c.loop-i.narrow in
    let rest = scaled c.reduce.new.self in
    let inv = c.loop-i.invariant in
    let turned = c.left_rotation_inverse.ensures in
    let letter = letter_is letters i p c.letter.ensures.code n c.len-i-end.ensures.valid.word in
    let taken = letter_taken n p c.loop-i.narrow c.left_rotation_inverse.new.self c.reduce.new.self inv.qubits turned.qubits turned.exponent turned.table c.reduce.ensures.value in
    let step = coset_left n p letter.0 letter.1 m rest taken (drop (i + 1) letters) in
    let at = drop_at letters i p c.letter.ensures.code in
    record {
      qubits = c.reduce.ensures.qubits ∙ (turned.qubits ∙ inv.qubits);
      reduced = c.reduce.ensures.reduced;
      circuit = λ circuit. circuit_left n p letter.0 letter.1 m rest taken (inv.circuit circuit);
      coset = (
        λ same. step.0 (subst (λ w. SameCoset n m (word_channel n w)) at (inv.coset.0 same)),
        λ same. inv.coset.1 (subst (λ w. SameCoset n m (word_channel n w)) (sym at) (step.1 same)),
      );
    }

pub returns-clause-coset : goal.returns-clause-coset
returns-clause-coset c circuit =
    let n = c.args.word.qubits in
    let letters = c.args.word.letters in
    let m = scaled c.loop-i.narrow in
    let inv = c.loop-i.invariant in
    let valid = c.len-i-end.ensures.valid in
    let end : c.loop-i.i ≡ length letters = omega (arith, c.loop-i-test.false, c.loop-i.auto.i-end, c.len-i-end.ensures.value) in
    let ended = ap (λ k. drop k letters) end ∙ drop-length letters in
    let tells = permutation_coset n valid.some valid.few c.loop-i.narrow inv.qubits inv.reduced (inv.circuit circuit) in (
      λ yes. inv.coset.1 (subst (λ w. SameCoset n m (word_channel n w)) (sym ended) (tells.0 (c.signed_permutation.ensures.0 yes))),
      λ same. c.signed_permutation.ensures.1 (tells.1 (subst (λ w. SameCoset n m (word_channel n w)) ended (inv.coset.0 same))),
    )
