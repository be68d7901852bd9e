-- Runs of a column's numbers as they are written, from the rows of the column's block.
-- Source: Knuth, The Art of Computer Programming, volume 1, section 2.2.6, for sparse matrices.
use Rattle.std.specs.Prelude.{◌≡◌, ℕ, ◌+◌, ◌-◌, ◌*◌, ◌<◌, ◌≤◌, ℤ, pos, ◌*ℤ◌, List, length, slice_index, slice_index_or}
use Rattle.ring_laws.specs.Matrix.{sum}
use Rattle.ring_laws.specs.Ring.{integers}
use Rattle.channel_rep.specs.Tables.{SurdTable}
use Rattle.quick_label.specs.Columns.{run_sum}

-- the rows and the numbers before a place are the same
pub record IsKeptTo (start : ℕ) (rows more_rows : List ℕ) (values more_values : List ℤ) : Type 0 where
  pub same_rows : (k : ℕ) → k < start → slice_index more_rows k ≡ slice_index rows k
  pub same_values : (k : ℕ) → k < start → slice_index_or more_values k (pos 0) ≡ slice_index_or values k (pos 0)

-- for all weights of rows, the numbers between two places have the sum of the numbers of these rows
abbrev pub IsRunOf : List ℕ → (ℕ → ℤ) → List ℕ → List ℤ → ℕ → ℕ → Type 0
IsRunOf block number rows values start end = (w : ℕ → ℤ) → run_sum w rows values start (end - start) ≡ sum integers (length block) (λ k. w (slice_index block k) *ℤ number (slice_index block k))

-- the runs of the first columns of a table, each of the rows of its block
pub record AreRuns (m : SurdTable) (block : ℕ → List ℕ) (first : ℕ) (starts rows : List ℕ) (values : List ℤ) : Type 0 where
  pub wholes : (c : ℕ) → c < first → IsRunOf (block c) (λ row. (m row c).a) rows values (slice_index starts (2 * c)) (slice_index starts (2 * c + 1))
  pub parts : (c : ℕ) → c < first → IsRunOf (block c) (λ row. (m row c).b) rows values (slice_index starts (2 * c + 1)) (slice_index starts (2 * c + 2))
