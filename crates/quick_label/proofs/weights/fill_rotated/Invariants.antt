use Rattle.std.proofs.Common.{◌≡◌, ℕ, ◌<◌, false, length, slice_index, slice_index_or}
use Rattle.pauli_basis.specs.Products.{commute, anti_sign}
use Rattle.channel_rep.specs.Tables.{SurdTable}
use Rattle.label_laws.specs.Folds.{rotated_weights}
use Rattle.label_laws.specs.Sparse.{AreWeights}
use Rattle.quick_label.specs.Letters.{IsWeight}
use Rattle.quick_label.proofs.weights.fill_rotated.Given as goal

abbrev pub invariant-loop-row : goal.invariant-loop-row
invariant-loop-row l = (n : ℕ) (w : SurdTable)
    → ((row : ℕ) → row < length l.weights.wholes → slice_index_or l.commuting row false ≡ commute n l.p row)
    → ((row : ℕ) → row < length l.weights.wholes → slice_index_or l.negative row false ≡ anti_sign n l.p row)
    → AreWeights (length l.weights.wholes) w l.weights.wholes l.weights.parts
    → (k : ℕ) → k < l.row → IsWeight (rotated_weights n false l.p w 0 k) (slice_index l.wholes k) (slice_index l.parts k)
