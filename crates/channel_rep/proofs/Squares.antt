-- Lemmas for the crates above: the places of a square table, row by row.
use Rattle.std.proofs.Common.{◌≡◌, ℕ, ◌+◌, ◌*◌, ◌/◌, ◌%◌, ◌^◌, ◌<◌, ◌≤◌, arith, lit<}
use Rattle.std.proofs.lemmas.Nat.{mul-le, mul-add-lt, div-mul-add, mod-mul-add, div_below, mod_below, div-add-mod'}
pub use Rattle.pauli_basis.proofs.Letters.{codes_some}
use Rattle.std.proofs.Math.Nat.{pow-le-pow_right}

-- at most 64 rows, and 4096 places
pub codes_few : (n : ℕ) → n ≤ 3 → 4 ^ n ≤ 64
codes_few n few = pow-le-pow_right {n = 4} (lit< tt) few

-- and so 4096 places
pub places_few : (n size : ℕ) → n ≤ 3 → size ≡ 4 ^ n → size * size ≤ 4096
places_few n size few e = let small : size ≤ 64 = omega (arith, codes_few n few) in mul-le size size 64 64 small small

-- a row and a column have a place, and a place has a row and a column
pub place-lt : (size row column : ℕ) → row < size → column < size → row * size + column < size * size
place-lt size row column l m = mul-add-lt row size column size l m

-- the row of that place
pub row_of_place : (size row column : ℕ) → column < size → (row * size + column) / size ≡ row
row_of_place size row column l = div-mul-add row size column l

-- and its column
pub column_of_place : (size row column : ℕ) → column < size → (row * size + column) % size ≡ column
column_of_place size row column l = mod-mul-add row size column l

-- a place has a row of the table
pub row_below : (n place : ℕ) → place < 4 ^ n * 4 ^ n → place / 4 ^ n < 4 ^ n
row_below n place l = div_below place (4 ^ n) (4 ^ n) (codes_some n) l

-- and a column
pub column_below : (n place : ℕ) → place % 4 ^ n < 4 ^ n
column_below n place = mod_below place (4 ^ n) (codes_some n)

-- which are its own
pub place_is : (n place : ℕ) → place / 4 ^ n * 4 ^ n + place % 4 ^ n ≡ place
place_is n place = div-add-mod' place (4 ^ n)
