-- Labels: what all channels of one coset have in common. The columns of a channel with the least exponent, each with the
-- sign that makes its first number other than 0 positive, in lexicographic order. Rule and order are this program's own.
use Rattle.std.specs.Prelude.{◌≡◌, ℕ, zero, suc, ◌+◌, ◌^◌, ◌<◌, ◌⊎◌, ℤ, pos, negsuc, neg_ℤ, Bool, true, false, if◌then◌else◌, List, [], ◌∷◌, map, IsPermutation, IsSorted}
use Rattle.std.specs.List.{range_with_len}
use Rattle.std.specs.Ordering.{int_cmp}
use Rattle.std.specs.Cmp.Lexicographic.{slice_cmp}
use Rattle.tc_ring.specs.Surds.{Surd, IsOdd}
use Rattle.channel_rep.specs.Tables.{SurdTable, ScaledTable, IsBuiltOf}
use Rattle.coset_label.specs.Words.{word_steps}

-- a column is the list of its numbers: a and then b of each cell a + b·√2, from row 0 up
abbrev pub Column : Type 0
Column = List ℤ

pub record Label : Type 0 where
  pub exponent : ℕ
  pub columns : List Column

-- the numbers of `count` cells from a row on
abbrev pub numbers_from : (ℕ → Surd) → ℕ → ℕ → Column
numbers_from cell row zero = []
numbers_from cell row (suc count) = (cell row).a ∷ (cell row).b ∷ numbers_from cell (row + 1) count

abbrev pub column_of : ℕ → SurdTable → ℕ → Column
column_of n m column = numbers_from (λ row. m row column) 0 (4 ^ n)

-- whether the first number other than 0 is negative
abbrev pub leads_negative : Column → Bool
leads_negative [] = false
leads_negative (pos zero ∷ numbers) = leads_negative numbers
leads_negative (pos (suc _) ∷ numbers) = false
leads_negative (negsuc _ ∷ numbers) = true

-- the column or its negative, whichever doesn't lead with a negative number
abbrev pub with_fixed_sign : Column → Column
with_fixed_sign column = if leads_negative column then map neg_ℤ column else column

-- all columns of a table with their signs fixed, in the order in which they stand
abbrev pub fixed_columns : ℕ → SurdTable → List Column
fixed_columns n m = map (λ column. with_fixed_sign (column_of n m column)) (range_with_len 0 (4 ^ n))

-- some entry has an odd whole part
pub record HasOddEntry (n : ℕ) (m : ScaledTable) : Type 0 where
  pub row : ℕ
  pub column : ℕ
  pub row_below : row < 4 ^ n
  pub column_below : column < 4 ^ n
  pub odd : IsOdd (m.table row column).a

-- the exponent is the least one: it is 0, or not all entries can be divided by √2
abbrev pub HasLeastExponent : ℕ → ScaledTable → Type 0
HasLeastExponent n m = (m.exponent ≡ 0) ⊎ HasOddEntry n m

-- the label of a table that has the least exponent
pub record IsLabelOf (n : ℕ) (m : ScaledTable) (label : Label) : Type 0 where
  pub least : HasLeastExponent n m
  pub exponent : label.exponent ≡ m.exponent
  pub columns : IsPermutation (fixed_columns n m.table) label.columns
  pub sorted : IsSorted (slice_cmp int_cmp) label.columns

-- the label of a word: that of its channel, brought to the least exponent
pub record IsLabelOfWord (n : ℕ) (word : List ℕ) (label : Label) : Type 0 where
  pub channel : ScaledTable
  pub built : IsBuiltOf n (word_steps word) channel
  pub is : IsLabelOf n channel label
