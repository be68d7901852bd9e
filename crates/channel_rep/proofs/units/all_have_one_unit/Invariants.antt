use Rattle.std.proofs.Common.{ℕ, ◌+◌, ◌*◌, ◌<◌}
use Rattle.channel_rep.specs.Cells.{cell_of, HasOneUnit}
use Rattle.channel_rep.proofs.units.all_have_one_unit.Given as goal

abbrev pub invariant-loop-line : goal.invariant-loop-line
invariant-loop-line l = (line : ℕ) → line < l.line → HasOneUnit l.size (λ k. cell_of l.cells (line * l.across + k * l.step))
