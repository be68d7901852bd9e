use Rattle.std.proofs.Common.{◌≡◌, ℕ, ◌/◌, ◌%◌, ◌<◌, false, length, slice_index_or}
use Rattle.pauli_basis.specs.Products.{commute, anti_sign}
use Rattle.quick_label.proofs.turns.Turns.new.Given as goal

abbrev pub invariant-loop-place : goal.invariant-loop-place
invariant-loop-place l = record {
  commuting_long : length l.commuting.items ≡ l.place;
  negative_long : length l.negative.items ≡ l.place;
  commutes : (i : ℕ) → i < l.place → slice_index_or l.commuting.items i false ≡ commute l.n (i / l.size) (i % l.size);
  signs : (i : ℕ) → i < l.place → slice_index_or l.negative.items i false ≡ anti_sign l.n (i / l.size) (i % l.size);
}
