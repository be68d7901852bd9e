use Rattle.std.proofs.Common.{◌≡◌}
use Rattle.count_checker.proofs.tests.circuit_of.Given as goal

abbrev pub invariant-loop-gate : goal.invariant-loop-gate
invariant-loop-gate g l = l.circuit.qubits ≡ l.n
