use Rattle.std.proofs.Common.{◌≡◌, ℕ, ◌+◌, ◌*◌, ◌<◌}
use Rattle.std.specs.Bool.{MatchBool}
use Rattle.tc_ring.specs.Surds.{zero_surd}
use Rattle.channel_rep.specs.Cells.{cell_of, HasOneUnit}
use Rattle.channel_rep.proofs.units.has_one_unit.Given as goal

abbrev pub invariant-loop-k : goal.invariant-loop-k
invariant-loop-k l =
    MatchBool l.found (HasOneUnit l.k (λ k. cell_of l.cells (l.first + k * l.step))) ((k : ℕ) → k < l.k → cell_of l.cells (l.first + k * l.step) ≡ zero_surd)
