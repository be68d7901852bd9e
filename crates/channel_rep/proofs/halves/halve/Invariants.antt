use Rattle.std.proofs.Common.{◌≡◌, ℕ, ◌<◌, ◌≤◌}
use Rattle.tc_ring.specs.Surds.{surd_times, root2_surd}
use Rattle.channel_rep.specs.Cells.{cell_of}
use Rattle.channel_rep.proofs.halves.halve.Given as goal

abbrev pub invariant-loop-cell : goal.invariant-loop-cell
invariant-loop-cell l = record {
  done : (k : ℕ) → k < l.cell-index → surd_times root2_surd (cell_of l.cells k) ≡ cell_of l.initial.cells k;
  rest : (k : ℕ) → l.cell-index ≤ k → cell_of l.cells k ≡ cell_of l.initial.cells k;
}
