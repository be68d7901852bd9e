-- A table's columns, each kept by its numbers other than 0, one column behind the other: the whole parts of its cells, and then
-- their parts of √2.
-- Source: Knuth, The Art of Computer Programming, volume 1, section 2.2.6, for sparse matrices.
use Rattle.std.specs.Prelude.{◌≡◌, ℕ, ◌+◌, ◌-◌, ◌*◌, ◌^◌, ◌<◌, ◌≤◌, ℤ, pos, ◌+ℤ◌, ◌*ℤ◌, List, length, slice_index, slice_index_or}
use Rattle.ring_laws.specs.Matrix.{sum}
use Rattle.ring_laws.specs.Ring.{integers}
use Rattle.channel_rep.specs.Tables.{SurdTable}

-- where each run of numbers starts, two for each column, and the row and the number at each place
pub record StoredColumns : Type 0 where
  pub size : ℕ
  pub starts : List ℕ
  pub rows : List ℕ
  pub values : List ℤ

-- rows of a table of this size
abbrev pub RowsBelow : ℕ → List ℕ → Type 0
RowsBelow size rows = (k : ℕ) → k < length rows → slice_index rows k < size

-- room for all numbers of a table
pub record IsColumnRoom (columns : StoredColumns) : Type 0 where
  pub few : columns.size ≤ 64
  pub starts : length columns.starts ≡ 2 * columns.size + 1
  pub rows : length columns.rows ≡ 2 * (columns.size * columns.size)
  pub values : length columns.values ≡ 2 * (columns.size * columns.size)
  pub inside : (run : ℕ) → run ≤ 2 * columns.size → slice_index columns.starts run ≤ 2 * (columns.size * columns.size)
  pub below : RowsBelow columns.size columns.rows

-- the sum of so many numbers from a place on, each times the weight of its row
abbrev pub run_sum : (ℕ → ℤ) → List ℕ → List ℤ → ℕ → ℕ → ℤ
run_sum w rows values start count = sum integers count (λ k. w (slice_index rows (start + k)) *ℤ slice_index_or values (start + k) (pos 0))

-- for all weights of rows, the numbers between two places have the sum of the numbers of all rows: they are these without zeros
abbrev pub IsRun : ℕ → (ℕ → ℤ) → List ℕ → List ℤ → ℕ → ℕ → Type 0
IsRun size number rows values start end = (w : ℕ → ℤ) → run_sum w rows values start (end - start) ≡ sum integers size (λ row. w row *ℤ number row)

-- each column of a table
pub record HoldsColumns (size : ℕ) (m : SurdTable) (columns : StoredColumns) : Type 0 where
  pub as_many : columns.size ≡ size
  pub wholes : (c : ℕ) → c < size → IsRun size (λ row. (m row c).a) columns.rows columns.values (slice_index columns.starts (2 * c)) (slice_index columns.starts (2 * c + 1))
  pub parts : (c : ℕ) → c < size → IsRun size (λ row. (m row c).b) columns.rows columns.values (slice_index columns.starts (2 * c + 1)) (slice_index columns.starts (2 * c + 2))
