use Rattle.std.proofs.Common.{◌≡◌, ◌-◌}
use Rattle.channel_rep.specs.Cells.{most_exponent}
use Rattle.channel_rep.proofs.narrow_tests.the_most_rotations_fit_narrow_rows.Given as goal

abbrev pub invariant-loop-z : goal.invariant-loop-z
invariant-loop-z g l = l.m.qubits ≡ 1

abbrev pub decreases-loop-z : goal.decreases-loop-z
decreases-loop-z g l = most_exponent - l.m.exponent
