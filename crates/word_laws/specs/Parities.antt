-- The parities of a table's numbers, and words of bits that hold them.
use Rattle.std.specs.Prelude.{◌≡◌, ℕ, ◌%◌, ◌^◌, ◌<◌, ℤ, nat_abs, Bool, true, false, List, length, slice_index, slice_index_or}
use Rattle.std.specs.Int.{bit_at}
use Rattle.pauli_basis.specs.Products.{product_code, commute}
use Rattle.channel_rep.specs.Tables.{SurdTable}

-- 0 for an even number, 1 for an odd one
abbrev pub parity : ℤ → ℕ
parity z = nat_abs z % 2

-- in each row that anticommutes with P the whole parts have the parities of those of its partner, the row of P times it
abbrev pub WholesAgree : ℕ → ℕ → SurdTable → Type 0
WholesAgree n p m = (row column : ℕ) → row < 4 ^ n → column < 4 ^ n → commute n p row ≡ false → parity (m row column).a ≡ parity (m (product_code p row) column).a

-- and the parts of √2 have
abbrev pub PartsAgree : ℕ → ℕ → SurdTable → Type 0
PartsAgree n p m = (row column : ℕ) → row < 4 ^ n → column < 4 ^ n → commute n p row ≡ false → parity (m row column).b ≡ parity (m (product_code p row) column).b

-- in the rows that commute with P the whole parts are even
abbrev pub CommutingEven : ℕ → ℕ → SurdTable → Type 0
CommutingEven n p m = (row column : ℕ) → row < 4 ^ n → column < 4 ^ n → commute n p row ≡ true → parity (m row column).a ≡ 0

-- words that hold the parities of a table, a word a row and a bit a column: those of the whole parts, those of the parts of √2,
-- and which rows commute with P
pub record AreParities (n p : ℕ) (m : SurdTable) (wholes parts : List ℕ) (commutes : List Bool) : Type 0 where
  pub code : p < 4 ^ n
  pub rows : length wholes ≡ 4 ^ n
  pub wholes_below : (row : ℕ) → row < 4 ^ n → slice_index wholes row < 2 ^ 4 ^ n
  pub parts_below : (row : ℕ) → row < 4 ^ n → slice_index parts row < 2 ^ 4 ^ n
  pub whole_bits : (row column : ℕ) → row < 4 ^ n → column < 4 ^ n → bit_at (slice_index wholes row) column ≡ parity (m row column).a
  pub part_bits : (row column : ℕ) → row < 4 ^ n → column < 4 ^ n → bit_at (slice_index parts row) column ≡ parity (m row column).b
  pub commuting : (row : ℕ) → row < 4 ^ n → slice_index_or commutes row false ≡ commute n p row
