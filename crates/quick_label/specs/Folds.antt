-- The weights of the tag's fold, and those before each letter.
-- Source: that a rotation changes weights instead of cells is the rule of associativity; that they are kept is this program's own.
use Rattle.std.specs.Prelude.{◌≡◌, ℕ, ◌^◌, ◌<◌, length, slice_index_or}
use Rattle.label_laws.specs.Folds.{weights}
use Rattle.label_laws.specs.Sparse.{AreWeights}
use Rattle.quick_label.specs.Letters.{HeldWeights}
use Rattle.quick_label.specs.Weights.{before_letter}
use Rattle.quick_label.specs.declared.before.Folds.{Folds}

-- weights of the fold that are held, a place for each of the 4^n rows, before a letter with no division
pub record AreFoldBefore (n p : ℕ) (held : HeldWeights) : Type 0 where
  pub long : length held.wholes ≡ 4 ^ n
  pub are : AreWeights (4 ^ n) (before_letter n p 0 (weights (4 ^ n))) held.wholes held.parts

-- those on n qubits, as they are and before each letter
pub record AreFolds (n : ℕ) (f : Folds) : Type 0 where
  pub plain_long : length f.plain.wholes ≡ 4 ^ n
  pub plain : AreWeights (4 ^ n) (weights (4 ^ n)) f.plain.wholes f.plain.parts
  pub long : length f.before.items ≡ 4 ^ n
  pub before : (p : ℕ) (d : HeldWeights) → p < 4 ^ n → AreFoldBefore n p (slice_index_or f.before.items p d)
