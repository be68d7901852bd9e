use Rattle.std.proofs.Common.{◌≡◌, drop}
use Rattle.tc_bridge.specs.Block.{as_gates, undone}
use Rattle.clifford_rest.proofs.circuit.inverse_circuit.Given as goal

abbrev pub invariant-loop-place : goal.invariant-loop-place
invariant-loop-place l = (l.circuit.qubits ≡ l.n) × (l.circuit.gates ≡ as_gates (undone (drop l.place l.gates)))
