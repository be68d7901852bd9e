use Rattle.std.proofs.Common.{◌≡◌, ℕ, ◌<◌, length, slice_index_or}
use Rattle.quick_label.specs.Folds.{AreFoldBefore}
use Rattle.quick_label.specs.Letters.{HeldWeights}
use Rattle.quick_label.proofs.before.Folds.new.Given as goal

abbrev pub invariant-loop-p : goal.invariant-loop-p
invariant-loop-p l = record {
  long : length l.before.items ≡ l.p;
  before : (k : ℕ) (d : HeldWeights) → k < l.p → AreFoldBefore l.n k (slice_index_or l.before.items k d);
}
