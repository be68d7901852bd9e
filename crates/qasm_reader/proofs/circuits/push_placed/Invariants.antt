use Rattle.std.proofs.Common.{◌≡◌, ◌++◌, map, take}
use Rattle.qasm_reader.specs.State.{placed}
use Rattle.qasm_reader.proofs.circuits.push_placed.Given as goal

abbrev pub invariant-loop-gate : goal.invariant-loop-gate
invariant-loop-gate l = record {
  qubits : l.circuit.qubits ≡ l.fn.circuit.qubits;
  gates : l.circuit.gates ≡ l.fn.circuit.gates ++ map (placed l.qubits) (take l.gate-index l.gates);
}
