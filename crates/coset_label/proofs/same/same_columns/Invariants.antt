use Rattle.std.proofs.Common.{◌≡◌, ℕ, ◌<◌, ◌^◌}
use Rattle.coset_label.specs.Scratch.{placed_cell}
use Rattle.coset_label.proofs.same.same_columns.Given as goal

abbrev pub invariant-loop-row : goal.invariant-loop-row
invariant-loop-row l = (row place : ℕ) → row < l.row → place < 4 ^ l.x.qubits → placed_cell l.x l.x_negative l.x_order row place ≡ placed_cell l.y l.y_negative l.y_order row place
