use Rattle.std.proofs.Common.{◌≡◌, take}
use Rattle.tc_circuit.specs.Grid.{grid_matrix}
use Rattle.tc_circuit.specs.Model.{IsMatrixOf, h_count_of}
use Rattle.count_checker.proofs.matrices.matrix_of.Given as goal

abbrev pub invariant-loop-gate : goal.invariant-loop-gate
invariant-loop-gate l = record {
  qubits : l.matrix.qubits ≡ l.circuit.qubits;
  exponent : l.matrix.exponent ≡ h_count_of (take l.gate-index l.circuit.gates);
  matrix : IsMatrixOf l.circuit.qubits (take l.gate-index l.circuit.gates) (grid_matrix l.matrix);
}
