use Rattle.std.proofs.Common.{◌≡◌, ℕ, ◌<◌}
use Rattle.tc_ring.specs.Surds.{zero_surd}
use Rattle.channel_rep.specs.Cells.{entries}
use Rattle.channel_rep.proofs.units.unit_of_column.Given as goal

abbrev pub invariant-loop-row : goal.invariant-loop-row
invariant-loop-row l = (r : ℕ) → r < l.row → entries l.size l.cells r l.column ≡ zero_surd
