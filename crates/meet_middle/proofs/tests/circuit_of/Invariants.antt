use Rattle.std.proofs.Common.{◌≡◌}
use Rattle.meet_middle.proofs.tests.circuit_of.Given as goal

abbrev pub invariant-loop-gate : goal.invariant-loop-gate
invariant-loop-gate g l = record {
  qubits : l.circuit.qubits ≡ l.n;
}
