use Rattle.std.proofs.Common.{◌≡◌, ℕ, ◌<◌, ℤ, pos, length, slice_index_or}
use Rattle.quick_label.specs.FrontRooms.{AreHalves}
use Rattle.quick_label.proofs.front.number_columns.Given as goal

abbrev pub invariant-loop-column : goal.invariant-loop-column
invariant-loop-column l = (x y z : ℕ → ℤ) → AreHalves (length l.fn.numbers) l.highs l.lows l.halve x y z → (k : ℕ) → k < l.column → slice_index_or l.numbers k (pos 0) ≡ z k
