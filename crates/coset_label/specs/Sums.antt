-- How a tag is made of a label that is kept by indexes: each column's own fold, one column's after another's. Numbers of 64
-- bits serve for it, since 2^38 divides 2^64.
use Rattle.std.specs.Prelude.{◌≡◌, ℕ, ◌+◌, ◌-◌, ◌*◌, ◌%◌, ◌^◌, ◌<◌, Bool, false, if◌then◌else◌, List, fold, slice_index, slice_index_or}
use Rattle.channel_rep.specs.Cells.{ChannelGrid, table_of}
use Rattle.coset_label.specs.Labels.{Column, column_of}
use Rattle.coset_label.specs.Tags.{fold_number}

-- the fold of a column's numbers
abbrev pub column_sum : Column → ℕ
column_sum column = fold fold_number 0 column

-- numbers that are the columns' folds modulo 2^38
abbrev pub AreSums : ChannelGrid → List ℕ → Type 0
AreSums m sums = (column : ℕ) → column < 4 ^ m.qubits → slice_index sums column % 2 ^ 38 ≡ column_sum (column_of m.qubits (table_of m) column) % 2 ^ 38

-- a column's fold, or that of its negative
abbrev pub turned_sum : Bool → ℕ → ℕ
turned_sum negative sum = if negative then 2 ^ 64 - sum % 2 ^ 64 else sum

-- the columns' folds with their signs, one after another
abbrev pub joined_sums : ℕ → List ℕ → List Bool → ℕ → List ℕ → ℕ
joined_sums power sums negative first order =
    fold (λ f column. (f * power + turned_sum (slice_index_or negative column false) (slice_index sums column)) % 2 ^ 64) first order
