use Rattle.std.proofs.Common.{ℕ, ◌-◌, ◌*◌, ◌^◌, ◌<◌, ◌≤◌, length, slice_index}
use Rattle.std.specs.Prelude.{pos}
use Rattle.label_laws.specs.Congruence.{IsCongruent}
use Rattle.label_laws.specs.Folds.{weight}
use Rattle.quick_label.specs.Letters.{IsWeight}
use Rattle.quick_label.proofs.weights.fill_fold.Given as goal

abbrev pub invariant-loop-row : goal.invariant-loop-row
invariant-loop-row l = record {
  low : l.row ≤ length l.wholes;
  power : IsCongruent (2 ^ 64) (pos (1000003 ^ (2 * (length l.wholes - l.row)))) l.power;
  done : (k : ℕ) → l.row ≤ k → k < length l.wholes → IsWeight (weight (length l.wholes) k) (slice_index l.wholes k) (slice_index l.parts k);
}

abbrev pub decreases-loop-row : goal.decreases-loop-row
decreases-loop-row l = l.row
