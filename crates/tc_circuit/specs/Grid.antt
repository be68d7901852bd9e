-- What a `Matrix` shows: its qubits, one exponent of √2, and its cells row by row.
use Rattle.std.specs.Prelude.{◌≡◌, ℕ, ◌+◌, ◌*◌, ◌^◌, ◌<◌, ◌≤◌, List, [], length, slice_index_or}
use Rattle.tc_ring.specs.Bounds.{IsWithin}
use Rattle.tc_ring.specs.Omega.{number_of}
use Rattle.tc_ring.specs.declared.omega.Omega.{Omega}
use Rattle.tc_circuit.specs.Gate.{Table}
use Rattle.tc_circuit.specs.Model.{ScaledMatrix}

pub record Grid : Type 0 where
  pub qubits : ℕ
  pub exponent : ℕ
  pub cells : List Omega

abbrev pub no_cell : Omega
no_cell = record { x = [] }

-- the entries of cells that stand row by row
abbrev pub entries : ℕ → List Omega → Table
entries n cells row column = number_of (slice_index_or cells (row * 2 ^ n + column) no_cell)

abbrev pub grid_table : Grid → Table
grid_table m = entries m.qubits m.cells

-- the matrix that it stands for
abbrev pub grid_matrix : Grid → ScaledMatrix
grid_matrix m = record { table = grid_table m; exponent = m.exponent }

-- each entry of the column is within the bound
abbrev pub ColumnWithin : ℕ → ℕ → List Omega → ℕ → Type 0
ColumnWithin bound n cells column = (row : ℕ) → row < 2 ^ n → IsWithin bound (entries n cells row column)

-- one to three qubits, 2^n rows of 2^n cells, at most 120 times √2 below, and no entry above 2^exponent
pub record IsGrid (m : Grid) : Type 0 where
  pub some : 0 < m.qubits
  pub few : m.qubits ≤ 3
  pub whole : length m.cells ≡ 2 ^ m.qubits * 2 ^ m.qubits
  pub low : m.exponent ≤ 120
  pub small : (column : ℕ) → column < 2 ^ m.qubits → ColumnWithin (2 ^ m.exponent) m.qubits m.cells column
