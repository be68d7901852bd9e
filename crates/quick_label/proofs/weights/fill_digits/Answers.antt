use Rattle.std.proofs.Common.{ℕ, arith, subst, slice_index}
use Rattle.quick_label.specs.Letters.{IsDigitWeight}
use Rattle.quick_label.proofs.WeightRows.{rows_below}
use Rattle.quick_label.proofs.weights.fill_digits.Goals as goal

pub loop-row-preserved : goal.loop-row-preserved
loop-row-preserved c =
    rows_below (λ k v s. IsDigitWeight (slice_index c.args.blocks.now.behind k) c.args.last v s) c.loop-row.wholes c.loop-row.parts c.loop-row.row _ _ (omega arith) (omega arith)
    (subst (λ (d : ℕ). IsDigitWeight d c.args.last c.digit_weight-whole.result.0 c.digit_weight-whole.result.1) c.behind.ensures.value c.digit_weight-whole.ensures) c.loop-row.invariant

pub returns : goal.returns
returns c row l = c.loop-row.invariant row (omega arith)
