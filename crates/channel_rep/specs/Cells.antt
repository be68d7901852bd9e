-- What a `Channel` shows: its qubits, one exponent of √2, and the cells row by row.
use Rattle.std.specs.Prelude.{◌≡◌, ℕ, ◌+◌, ◌*◌, ◌^◌, ◌<◌, ◌≤◌, ◌≢◌, ◌⊎◌, List, length, pos, slice_index_or}
use Rattle.tc_ring.specs.Root2.{surd_of}
use Rattle.tc_ring.specs.Surds.{Surd, SurdWithin, IsOdd, surd_negative, zero_surd, one_surd}
use Rattle.tc_ring.specs.declared.root2.Root2.{Root2}
use Rattle.channel_rep.specs.Tables.{SurdTable, ScaledTable}
use Rattle.channel_rep.specs.Norms.{HasOrthogonalColumns}

pub record ChannelGrid : Type 0 where
  pub qubits : ℕ
  pub exponent : ℕ
  pub cells : List Root2

abbrev pub no_cell : Root2
no_cell = record { a = pos 0; b = pos 0 }

-- the number at a place of a row
abbrev pub cell_of : List Root2 → ℕ → Surd
cell_of row place = surd_of (slice_index_or row place no_cell)

-- the entries of cells that stand row by row, `size` cells in each row
abbrev pub entries : ℕ → List Root2 → SurdTable
entries size cells row column = cell_of cells (row * size + column)

abbrev pub table_of : ChannelGrid → SurdTable
table_of m = entries (4 ^ m.qubits) m.cells

-- the table that it stands for
abbrev pub scaled : ChannelGrid → ScaledTable
scaled m = record { table = table_of m; exponent = m.exponent }

-- each cell of a row is within the bound
abbrev pub RowWithin : ℕ → List Root2 → Type 0
RowWithin bound row = (place : ℕ) → place < length row → SurdWithin bound (cell_of row place)

-- each entry of a table is within the bound
abbrev pub EntriesWithin : ℕ → ℕ → List Root2 → Type 0
EntriesWithin bound size cells = (row column : ℕ) → row < size → column < size → SurdWithin bound (entries size cells row column)

-- the largest exponent of a channel. At it both numbers of each cell are at most 2^60, so that a sum of two fits a machine word
abbrev pub most_exponent : ℕ
most_exponent = 120

-- one to three qubits, 4^n rows of 4^n cells, and orthogonal columns, in each of which the squares add up to 2^k for the
-- exponent k
pub record IsChannelGrid (m : ChannelGrid) : Type 0 where
  pub some : 0 < m.qubits
  pub few : m.qubits ≤ 3
  pub whole : length m.cells ≡ 4 ^ m.qubits * 4 ^ m.qubits
  pub low : m.exponent ≤ most_exponent
  pub orthogonal : HasOrthogonalColumns (4 ^ m.qubits) m.exponent (table_of m)

-- some cell has an odd whole part
pub record HasOddCell (m : ChannelGrid) : Type 0 where
  pub row : ℕ
  pub column : ℕ
  pub row_below : row < 4 ^ m.qubits
  pub column_below : column < 4 ^ m.qubits
  pub odd : IsOdd (table_of m row column).a

-- the exponent is the least one: it is 0, or not all cells can be divided by √2
abbrev pub IsReduced : ChannelGrid → Type 0
IsReduced m = (m.exponent ≡ 0) ⊎ HasOddCell m

-- 1 or −1
abbrev pub IsUnit : Surd → Type 0
IsUnit x = (x ≡ one_surd) ⊎ (x ≡ surd_negative one_surd)

-- one of the first numbers is 1 or −1, and the others are 0
pub record HasOneUnit (size : ℕ) (f : ℕ → Surd) : Type 0 where
  pub place : ℕ
  pub below : place < size
  pub unit : IsUnit (f place)
  pub others : (k : ℕ) → k < size → k ≢ place → f k ≡ zero_surd

-- no power of √2, and in each row and each column one entry 1 or −1 and else 0
pub record IsSignedPermutation (m : ChannelGrid) : Type 0 where
  pub exponent : m.exponent ≡ 0
  pub rows : (row : ℕ) → row < 4 ^ m.qubits → HasOneUnit (4 ^ m.qubits) (λ column. table_of m row column)
  pub columns : (column : ℕ) → column < 4 ^ m.qubits → HasOneUnit (4 ^ m.qubits) (λ row. table_of m row column)
