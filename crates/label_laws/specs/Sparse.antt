-- A column kept by its cells other than 0, and weights in 64 bits.
use Rattle.std.specs.Prelude.{◌≡◌, ◌≢◌, ℕ, ◌^◌, ◌<◌, List, length, slice_index}
use Rattle.tc_ring.specs.Surds.{zero_surd}
use Rattle.tc_ring.specs.declared.root2.Root2.{Root2}
use Rattle.channel_rep.specs.Tables.{SurdTable}
use Rattle.channel_rep.specs.Cells.{cell_of}
use Rattle.label_laws.specs.Congruence.{IsCongruent}

-- some rows of a column, rising, and their cells; the column's other cells are 0
pub record IsSparseColumn (size : ℕ) (m : SurdTable) (column : ℕ) (rows : List ℕ) (cells : List Root2) : Type 0 where
  pub below : (k : ℕ) → k < length rows → slice_index rows k < size
  pub rising : (j k : ℕ) → j < k → k < length rows → slice_index rows j < slice_index rows k
  pub are : (k : ℕ) → k < length rows → cell_of cells k ≡ m (slice_index rows k) column
  pub zeros : (row : ℕ) → row < size → ((k : ℕ) → k < length rows → slice_index rows k ≢ row) → m row column ≡ zero_surd

-- the weights of the whole parts, which are the weights' parts of √2, and those of the parts of √2, modulo 2^64
pub record AreWeights (size : ℕ) (w : SurdTable) (whole_weights part_weights : List ℕ) : Type 0 where
  pub wholes : (row : ℕ) → row < size → IsCongruent (2 ^ 64) (w 0 row).b (slice_index whole_weights row)
  pub parts : (row : ℕ) → row < size → IsCongruent (2 ^ 64) (w 0 row).a (slice_index part_weights row)
