use Rattle.std.proofs.Common.{◌≡◌, ℕ, ◌<◌, ◌%◌}
use Rattle.std.specs.Prelude.{nat_abs}
use Rattle.channel_rep.specs.Cells.{cell_of}
use Rattle.channel_rep.proofs.halves.all_even.Given as goal

abbrev pub invariant-loop-cell : goal.invariant-loop-cell
invariant-loop-cell l = (k : ℕ) → k < l.cell-index → nat_abs (cell_of l.cells k).a % 2 ≡ 0
