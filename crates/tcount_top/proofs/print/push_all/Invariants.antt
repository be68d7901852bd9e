use Rattle.std.proofs.Common.{◌≡◌, ◌++◌, take}
use Rattle.tcount_top.proofs.print.push_all.Given as goal

abbrev pub invariant-loop-gate : goal.invariant-loop-gate
invariant-loop-gate l = record {
  qubits : l.circuit.qubits ≡ l.fn.circuit.qubits;
  gates : l.circuit.gates ≡ l.fn.circuit.gates ++ take l.gate-index l.gates;
}
