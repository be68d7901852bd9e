-- Tables whose columns can be told by their numbers.
use Rattle.std.specs.Prelude.{◌≡◌, ◌≢◌, ℕ, ◌^◌, ◌<◌, ◌≤◌, nat_abs, Bool, true, false, List, length}
use Rattle.tc_ring.specs.Surds.{Surd, zero_surd}
use Rattle.channel_rep.specs.Tables.{SurdTable}
use Rattle.quick_label.specs.Blocks.{in_block}

-- numbers that are not greater in absolute value
pub record SurdUpTo (most_a most_b : ℕ) (x : Surd) : Type 0 where
  pub a : nat_abs x.a ≤ most_a
  pub b : nat_abs x.b ≤ most_b

-- the span marks a subspace, the table is 0 between different blocks, and its numbers are small
pub record IsPackable (n : ℕ) (span : List Bool) (most_a most_b : ℕ) (m : SurdTable) : Type 0 where
  pub long : length span ≡ 4 ^ n
  pub zero : in_block span 0 0 ≡ true
  pub closed : (x y z : ℕ) → x < 4 ^ n → y < 4 ^ n → z < 4 ^ n → in_block span x y ≡ true → in_block span y z ≡ true → in_block span x z ≡ true
  pub sparse : (row column : ℕ) → row < 4 ^ n → column < 4 ^ n → in_block span column row ≡ false → m row column ≡ zero_surd
  pub small : (row column : ℕ) → row < 4 ^ n → column < 4 ^ n → SurdUpTo most_a most_b (m row column)

-- a column's lead row: its first cell other than 0 stands there
pub record IsLeadRow (size : ℕ) (m : SurdTable) (column lead : ℕ) : Type 0 where
  pub low : lead < size
  pub zeros : (row : ℕ) → row < lead → m row column ≡ zero_surd
  pub other : m lead column ≢ zero_surd

-- a table that is 0 where row and column lie in different blocks
abbrev pub IsSparseTable : ℕ → List Bool → SurdTable → Type 0
IsSparseTable size span m = (row column : ℕ) → row < size → column < size → in_block span column row ≡ false → m row column ≡ zero_surd
