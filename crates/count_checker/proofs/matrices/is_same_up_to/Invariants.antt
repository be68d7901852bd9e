use Rattle.std.proofs.Common.{ℕ, ◌*◌, ◌+◌, ◌^◌, ◌<◌}
use Rattle.tc_circuit.specs.Grid.{grid_matrix}
use Rattle.count_checker.specs.Check.{SameEntry}
use Rattle.count_checker.proofs.matrices.is_same_up_to.Given as goal

abbrev pub invariant-loop-place : goal.invariant-loop-place
invariant-loop-place l = (row column : ℕ) → row < 2 ^ l.a.qubits → column < 2 ^ l.a.qubits → row * 2 ^ l.a.qubits + column < l.place → SameEntry l.turns (grid_matrix l.a) (grid_matrix l.b) row column
