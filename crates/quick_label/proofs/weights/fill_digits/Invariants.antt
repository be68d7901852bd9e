use Rattle.std.proofs.Common.{ℕ, ◌<◌, slice_index}
use Rattle.quick_label.specs.Letters.{IsDigitWeight}
use Rattle.quick_label.proofs.weights.fill_digits.Given as goal

abbrev pub invariant-loop-row : goal.invariant-loop-row
invariant-loop-row l = (k : ℕ) → k < l.row → IsDigitWeight (slice_index l.blocks.behind k) l.last (slice_index l.wholes k) (slice_index l.parts k)
