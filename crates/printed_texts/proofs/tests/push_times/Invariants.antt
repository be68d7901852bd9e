use Rattle.std.proofs.Common.{◌≡◌}
use Rattle.printed_texts.proofs.tests.push_times.Given as goal

abbrev pub invariant-loop : goal.invariant-loop
invariant-loop l = l.circuit.qubits ≡ l.fn.circuit.qubits
