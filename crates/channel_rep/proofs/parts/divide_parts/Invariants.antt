use Rattle.std.proofs.Common.{◌≡◌, ℕ, ◌-◌, ◌<◌, ◌≤◌, length}
use Rattle.tc_ring.specs.Surds.{surd_times}
use Rattle.channel_rep.specs.Cells.{cell_of}
use Rattle.channel_rep.specs.Parts.{cells_of}
use Rattle.channel_rep.proofs.Built.{root2_to}
use Rattle.channel_rep.proofs.parts.divide_parts.Given as goal

abbrev pub invariant-loop-left : goal.invariant-loop-left
invariant-loop-left l = record {
  low : l.left ≤ l.exponent;
  cells : (k : ℕ) → k < length l.initial.a → surd_times (root2_to (l.exponent - l.left)) (cell_of (cells_of l.a l.b) k) ≡ cell_of (cells_of l.initial.a l.initial.b) k;
}

abbrev pub decreases-loop-left : goal.decreases-loop-left
decreases-loop-left l = l.left
