use Rattle.std.proofs.Common.{◌≡◌, ℕ, ◌<◌}
use Rattle.channel_rep.specs.Cells.{cell_of}
use Rattle.coset_label.specs.Scratch.{cell_at}
use Rattle.coset_label.proofs.same.same_row.Given as goal

abbrev pub invariant-loop-place : goal.invariant-loop-place
invariant-loop-place l = (place : ℕ) → place < l.place → cell_at (cell_of l.x) l.x_negative l.x_order place ≡ cell_at (cell_of l.y) l.y_negative l.y_order place
