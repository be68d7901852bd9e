-- The blocks of a span: codes that differ by one of its own. A word's channel is 0 where row and column lie in different ones.
use Rattle.std.specs.Prelude.{ℕ, ◌+◌, ◌-◌, Bool, false, List, filter, reverse, slice_index_or}
use Rattle.std.specs.List.{count_by, range_with_len}
use Rattle.pauli_basis.specs.Products.{product_code}

-- whether two codes lie in one block
abbrev pub in_block : List Bool → ℕ → ℕ → Bool
in_block span x y = slice_index_or span (product_code x y) false

-- the rows of a column's block, the last one first
abbrev pub block_rows : ℕ → List Bool → ℕ → List ℕ
block_rows size span column = reverse (filter (in_block span column) (range_with_len 0 size))

-- how many rows of a row's own block stand behind it
abbrev pub rows_behind : ℕ → List Bool → ℕ → ℕ
rows_behind size span row = count_by (in_block span row) (range_with_len (row + 1) (size - 1 - row))
