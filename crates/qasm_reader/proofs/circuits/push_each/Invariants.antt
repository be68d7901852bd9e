use Rattle.std.proofs.Common.{◌≡◌, ◌++◌, ◌∷◌, [], map, take}
use Rattle.std.specs.List.{flat_map}
use Rattle.qasm_reader.specs.State.{placed}
use Rattle.qasm_reader.proofs.circuits.push_each.Given as goal

abbrev pub invariant-loop-q : goal.invariant-loop-q
invariant-loop-q l = record {
  qubits : l.circuit.qubits ≡ l.fn.circuit.qubits;
  gates : l.circuit.gates ≡ l.fn.circuit.gates ++ flat_map (λ q. map (placed (q ∷ [])) l.gates) (take l.q-index l.qubits);
}
