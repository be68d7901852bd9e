use Rattle.std.proofs.Common.{◌≡◌, ℕ, ◌-◌, ◌<◌, ◌≤◌, length}
use Rattle.tc_ring.specs.Surds.{surd_times}
use Rattle.channel_rep.specs.Cells.{cell_of}
use Rattle.channel_rep.proofs.Built.{root2_to}
use Rattle.channel_rep.proofs.halves.divide_out.Given as goal

abbrev pub invariant-loop-left : goal.invariant-loop-left
invariant-loop-left l = record {
  low : l.left ≤ l.exponent;
  cells : (k : ℕ) → k < length l.initial.cells → surd_times (root2_to (l.exponent - l.left)) (cell_of l.cells k) ≡ cell_of l.initial.cells k;
}

abbrev pub decreases-loop-left : goal.decreases-loop-left
decreases-loop-left l = l.left
