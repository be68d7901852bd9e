use Rattle.std.proofs.Common.{◌≡◌}
use Rattle.clifford_rest.proofs.tests.channel.Given as goal

abbrev pub invariant-loop-gate : goal.invariant-loop-gate
invariant-loop-gate g l = l.circuit.qubits ≡ l.n
