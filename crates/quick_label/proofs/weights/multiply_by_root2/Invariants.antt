use Rattle.std.proofs.Common.{◌≡◌, ℕ, ◌<◌, ◌≤◌, slice_index}
use Rattle.tc_ring.specs.Surds.{Surd, surd_times, root2_surd}
use Rattle.quick_label.specs.Letters.{IsWeight}
use Rattle.quick_label.proofs.weights.multiply_by_root2.Given as goal

abbrev pub invariant-loop-row : goal.invariant-loop-row
invariant-loop-row l = record {
  wholes : (k : ℕ) → l.row ≤ k → slice_index l.wholes k ≡ slice_index l.initial.wholes k;
  parts : (k : ℕ) → l.row ≤ k → slice_index l.parts k ≡ slice_index l.initial.parts k;
  done : (k : ℕ) → k < l.row → (x : Surd) → IsWeight x (slice_index l.initial.wholes k) (slice_index l.initial.parts k) → IsWeight (surd_times root2_surd x) (slice_index l.wholes k) (slice_index l.parts k);
}
