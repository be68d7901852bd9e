use Rattle.std.proofs.Common.{◌≡◌, ℕ, ◌+◌, ◌-◌, ◌*◌, ◌^◌, ◌<◌, ◌≤◌, arith, ap, ◌∙◌, sym, get_or, length, take}
use Rattle.std.proofs.lemmas.List.Sums.{fold_more}
use Rattle.qasm_angle.specs.Symbols.{number}
use Rattle.qasm_angle.proofs.Numbers.{below_more, few_digits}
use Rattle.qasm_angle.proofs.symbols.number.Goals as goal

pub overflow_mul-n : goal.overflow_mul-n
overflow_mul-n c =
    let below = below_more c.args.digits.now c.loop-digit.digit-index c.loop-digit.n c.requires.digits c.loop-digit-test.true c.loop-digit.invariant.1 in
    omega (arith, below, few_digits (c.loop-digit.digit-index + 1) (omega arith))

pub overflow_add-n : goal.overflow_add-n
overflow_add-n c =
    let below = below_more c.args.digits.now c.loop-digit.digit-index c.loop-digit.n c.requires.digits c.loop-digit-test.true c.loop-digit.invariant.1 in
    omega (arith, below, few_digits (c.loop-digit.digit-index + 1) (omega arith), c.from.ensures)

pub loop-digit-preserved : goal.loop-digit-preserved
loop-digit-preserved c =
    let below = below_more c.args.digits.now c.loop-digit.digit-index c.loop-digit.n c.requires.digits c.loop-digit-test.true c.loop-digit.invariant.1 in
    let same : c.loop-digit.n * 10 + c.from.result ≡ c.loop-digit.n * 10 + (get_or c.args.digits.now c.loop-digit.digit-index 0 - 48) = omega (arith, c.from.ensures) in (
      ap (λ (n : ℕ). n * 10 + c.from.result) c.loop-digit.invariant.0 ∙ ap (λ (d : ℕ). number (take c.loop-digit.digit-index c.args.digits.now) * 10 + d) c.from.ensures
          ∙ sym (fold_more (λ (n b : ℕ). n * 10 + (b - 48)) 0 c.args.digits.now c.loop-digit.digit-index 0 c.loop-digit-test.true),
      omega (arith, below, same),
    )
