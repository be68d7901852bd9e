use Rattle.std.proofs.Common.{ℕ, ◌^◌, ◌<◌}
use Rattle.tc_circuit.specs.Grid.{grid_matrix}
use Rattle.tc_circuit.specs.Model.{SameUpTo}
use Rattle.count_checker.proofs.matrices.is_same.Given as goal

abbrev pub invariant-loop-turns : goal.invariant-loop-turns
invariant-loop-turns l = (j : ℕ) → j < l.turns → SameUpTo (2 ^ l.a.qubits) j (grid_matrix l.a) (grid_matrix l.b) → ⊥
