-- A label's fold as a sum over the columns of its table, in whatever order they are taken.
use Rattle.std.specs.Prelude.{ℕ, ◌+◌, ◌-◌, ◌*◌, ◌/◌, ◌%◌, ◌^◌, ℤ, pos, neg_ℤ, ◌+ℤ◌, ◌*ℤ◌, Bool, if◌then◌else◌}
use Rattle.std.specs.Ordering.{int_cmp}
use Rattle.std.specs.Cmp.Lexicographic.{slice_cmp}
use Rattle.ring_laws.specs.Ring.{integers}
use Rattle.ring_laws.specs.Matrix.{sum}
use Rattle.channel_rep.specs.Tables.{SurdTable, ScaledTable}
use Rattle.coset_label.specs.Labels.{column_of, leads_negative, with_fixed_sign, fixed_columns}
use Rattle.label_laws.specs.Folds.{weights, weighed}
use Rattle.label_laws.specs.Ranks.{rank}

-- the place of a column in the label: how many columns of the table are less, all with their signs fixed
abbrev pub place_of : ℕ → SurdTable → ℕ → ℕ
place_of n m column = rank (slice_cmp int_cmp) (fixed_columns n m) (with_fixed_sign (column_of n m column))

-- a whole number, or its negative
abbrev pub turned_whole : Bool → ℤ → ℤ
turned_whole negative x = if negative then neg_ℤ x else x

-- what one column more multiplies a fold by, not cut
abbrev pub column_power : ℕ → ℕ
column_power n = 1000003 ^ (2 * 4 ^ n)

-- a number for each column, with the sign of m's column and times a power for its place among m's columns, summed over the
-- columns
abbrev pub placed_folds : ℕ → SurdTable → (ℕ → ℤ) → ℤ
placed_folds n m folds =
    sum integers (4 ^ n) (λ c. turned_whole (leads_negative (column_of n m c)) (folds c) *ℤ pos (column_power n ^ (4 ^ n - 1 - place_of n m c)))

-- a label's fold, not cut: the exponent in front, and then the columns' folds at their places
abbrev pub label_total : ℕ → ScaledTable → ℤ
label_total n m = pos m.exponent *ℤ pos (column_power n ^ 4 ^ n) +ℤ placed_folds n m.table (weighed (4 ^ n) (weights (4 ^ n)) m.table)

-- a tag, from a number that is congruent to the label's fold
abbrev pub tag_from : ℕ → ℕ
tag_from number = let f = number % 2 ^ 38 in (f + f / 2 ^ 19) % 2 ^ 38
