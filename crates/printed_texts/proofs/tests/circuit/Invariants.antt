use Rattle.std.proofs.Common.{◌≡◌}
use Rattle.printed_texts.proofs.tests.circuit.Given as goal

abbrev pub invariant-loop-gate : goal.invariant-loop-gate
invariant-loop-gate l = l.circuit.qubits ≡ l.n
