use Rattle.std.proofs.Common.{◌≡◌}
use Rattle.tc_bridge.proofs.tests.circuit_of.Given as goal

abbrev pub invariant-loop-gate : goal.invariant-loop-gate
invariant-loop-gate g l = l.c.qubits ≡ l.n
