-- Room for what a letter before a word makes, and what its steps promise of single columns.
use Rattle.std.specs.Prelude.{◌≡◌, ◌≢◌, ℕ, ◌+◌, ◌*◌, ◌^◌, ◌<◌, ◌≤◌, ℤ, pos, ◌+ℤ◌, ◌*ℤ◌, nat_abs, if◌then◌else◌, Bool, List, length, slice_index, slice_index_or}
use Rattle.label_laws.specs.Congruence.{IsCongruent}
use Rattle.label_laws.specs.Folds.{weights, weighed}
use Rattle.channel_rep.specs.Tables.{SurdTable}
use Rattle.quick_label.specs.Blocks.{block_rows}
use Rattle.quick_label.specs.Numbers.{high_weights, low_weights}
use Rattle.quick_label.specs.Weights.{before_letter}
use Rattle.quick_label.specs.declared.front.Front.{Front}

-- a place for each of the 4^n columns in all of it
pub record IsFrontRoom (n : ℕ) (f : Front) : Type 0 where
  pub span : length f.span.items ≡ 4 ^ n
  pub fold_before : length f.fold_before.wholes ≡ 4 ^ n
  pub high_before : length f.high_before.wholes ≡ 4 ^ n
  pub low_before : length f.low_before.wholes ≡ 4 ^ n
  pub folds : length f.folds.items ≡ 4 ^ n
  pub highs : length f.highs.items ≡ 4 ^ n
  pub lows : length f.lows.items ≡ 4 ^ n
  pub numbers : length f.numbers.items ≡ 4 ^ n
  pub leads : length f.leads.items ≡ 4 ^ n
  pub places : length f.places.items ≡ 4 ^ n

-- the sum of each column of a table by weights, modulo 2^64
abbrev pub AreColumnSums : ℕ → SurdTable → SurdTable → List ℕ → Type 0
AreColumnSums size w m sums = (column : ℕ) → column < size → IsCongruent (2 ^ 64) (weighed size w m column) (slice_index sums column)

-- the sums before a letter, for the weights of the fold and for those of the high and the low digits behind it
pub record AreFrontSums (n p divisions : ℕ) (span : List Bool) (m : SurdTable) (folds highs lows : List ℕ) : Type 0 where
  pub fold_sums : AreColumnSums (4 ^ n) (before_letter n p divisions (weights (4 ^ n))) m folds
  pub high_sums : AreColumnSums (4 ^ n) (before_letter n p divisions (high_weights (4 ^ n) span)) m highs
  pub low_sums : AreColumnSums (4 ^ n) (before_letter n p divisions (low_weights (4 ^ n) span)) m lows

-- the halves of a number, or of twice the number, are these modulo 2^64, and fit 64 bits with a sign
pub record HasHalves (high low : ℕ) (halve : Bool) (x y z : ℤ) : Type 0 where
  pub is_high : IsCongruent (2 ^ 64) x high
  pub is_low : IsCongruent (2 ^ 64) y low
  pub high_fits : nat_abs x < 2 ^ 63
  pub low_fits : nat_abs y < 2 ^ 63
  pub sum : x *ℤ pos (2 ^ 64) +ℤ y ≡ (if halve then pos 2 *ℤ z else z)

-- the same of each column's number
abbrev pub AreHalves : ℕ → List ℕ → List ℕ → Bool → (ℕ → ℤ) → (ℕ → ℤ) → (ℕ → ℤ) → Type 0
AreHalves size highs lows halve x y z = (column : ℕ) → column < size → HasHalves (slice_index highs column) (slice_index lows column) halve (x column) (y column) (z column)

-- no number is 0, and each column's lead row has as many rows of its block behind it as its number has digits behind the first
abbrev pub AreLedBy : ℕ → List Bool → List ℤ → List ℕ → Type 0
AreLedBy size span numbers leads = (column : ℕ) → column < size → (slice_index_or numbers column (pos 0) ≢ pos 0)
    × ((behind : ℕ) → 256 ^ behind ≤ 2 * nat_abs (slice_index_or numbers column (pos 0)) → 2 * nat_abs (slice_index_or numbers column (pos 0)) < 256 ^ (behind + 1)
    → behind < length (block_rows size span column) → slice_index leads column ≡ slice_index (block_rows size span column) behind)
