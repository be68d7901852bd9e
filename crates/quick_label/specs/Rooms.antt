-- Room for the blocks of a span. A block's rows stand together at its home, a code of the block, and each column knows its home.
-- Source: Gottesman, The Heisenberg representation of quantum computers, 1998, for Paulis as vectors of bits, whose subspaces and
-- their cosets these are; that they are kept by homes is this program's own.
use Rattle.std.specs.Prelude.{◌≡◌, ℕ, ◌+◌, ◌-◌, ◌*◌, ◌<◌, ◌≤◌, ◌==◌, Bool, true, List, length, filter, reverse, slice_index, slice_range}
use Rattle.std.specs.List.{count_by, range_with_len}
use Rattle.pauli_basis.specs.Products.{product_code}
use Rattle.quick_label.specs.Blocks.{in_block, block_rows, rows_behind}

-- the codes on some qubits: how many they are, a home for each column, room for as many rows at each home, how many rows stand
-- there, and how many rows of a row's own block stand behind it
pub record HeldBlocks : Type 0 where
  pub size : ℕ
  pub homes : List ℕ
  pub rows : List ℕ
  pub counts : List ℕ
  pub behind : List ℕ

-- the rows of a column's block as they are held
abbrev pub held_rows : HeldBlocks → ℕ → List ℕ
held_rows held column = let home = slice_index held.homes column in slice_range held.rows (home * held.size) (home * held.size + slice_index held.counts home)

-- codes on at most three qubits, and room for each of them
pub record IsBlockRoom (held : HeldBlocks) : Type 0 where
  pub few : held.size ≤ 64
  pub closed : (x y : ℕ) → x < held.size → y < held.size → product_code x y < held.size
  pub homes : length held.homes ≡ held.size
  pub rows : length held.rows ≡ held.size * held.size
  pub counts : length held.counts ≡ held.size
  pub behind : length held.behind ≡ held.size
  pub homes_below : (column : ℕ) → column < held.size → slice_index held.homes column < held.size
  pub counts_few : (home : ℕ) → home < held.size → slice_index held.counts home ≤ held.size

-- the span marks a subspace: 0 is in it, and with two codes it has their exclusive or
pub record MarksSubspace (size : ℕ) (span : List Bool) : Type 0 where
  pub long : length span ≡ size
  pub zero : in_block span 0 0 ≡ true
  pub closed : (x y z : ℕ) → x < size → y < size → z < size → in_block span x y ≡ true → in_block span y z ≡ true → in_block span x z ≡ true

-- each code lies in the block of its home
abbrev pub AreAtHome : ℕ → List Bool → List ℕ → Type 0
AreAtHome size span homes = (x : ℕ) → x < size → in_block span (slice_index homes x) x ≡ true

-- these are the blocks of the span, and a home is its own
pub record AreBlocks (size : ℕ) (span : List Bool) (held : HeldBlocks) : Type 0 where
  pub long : held.size ≡ size
  pub homes : AreAtHome size span held.homes
  pub settled : (x : ℕ) → x < size → slice_index held.homes (slice_index held.homes x) ≡ slice_index held.homes x
  pub rows : (column : ℕ) → column < size → held_rows held column ≡ block_rows size span column
  pub behind : (row : ℕ) → row < size → slice_index held.behind row ≡ rows_behind size span row

-- no block has more rows than digits find room in 128 bits
pub record HasSmallBlocks (size : ℕ) (span : List Bool) : Type 0 where
  pub rows : (column : ℕ) → column < size → length (block_rows size span column) ≤ 16
  pub behind : (row : ℕ) → row < size → rows_behind size span row < 16

-- codes have one home exactly where they lie in one block
pub record AreHomes (size : ℕ) (span : List Bool) (homes : List ℕ) : Type 0 where
  pub below : (x : ℕ) → x < size → slice_index homes x < size
  pub inside : AreAtHome size span homes
  pub same : (x y : ℕ) → x < size → y < size → (slice_index homes y == slice_index homes x) ≡ in_block span x y

-- whether a row has this home
abbrev pub lives_at : List ℕ → ℕ → ℕ → Bool
lives_at homes home row = slice_index homes row == home

-- the rows with this home, the last one first
abbrev pub rows_at : ℕ → List ℕ → ℕ → List ℕ
rows_at size homes home = reverse (filter (lives_at homes home) (range_with_len 0 size))

-- the rows stand at their homes, and each knows how many stand behind it
pub record ArePlaced (size : ℕ) (homes rows counts behind : List ℕ) : Type 0 where
  pub counted : (home : ℕ) → home < size → slice_index counts home ≡ length (rows_at size homes home)
  pub placed : (home k : ℕ) → home < size → k < slice_index counts home → slice_index rows (home * size + k) ≡ slice_index (rows_at size homes home) k
  pub followed : (row : ℕ) → row < size → slice_index behind row ≡ count_by (lives_at homes (slice_index homes row)) (range_with_len (row + 1) (size - 1 - row))
  pub within : (row : ℕ) → row < size → slice_index behind row < slice_index counts (slice_index homes row)
