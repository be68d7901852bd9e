-- What the laws of this crate say.
use Rattle.std.specs.Prelude.{◌≢◌, ℕ, ◌+◌, ◌^◌, ◌<◌, ◌≤◌, List, ◌++◌}
use Rattle.tc_ring.specs.Surds.{SurdWithin}
use Rattle.channel_rep.specs.Tables.{SurdTable, ScaledTable, Step, by_rotation, by_inverse_rotation, built, SameTable, IsCircuitChannel}
use Rattle.channel_rep.specs.Products.{identity_table, table_product, table_of_step}
use Rattle.channel_rep.specs.Norms.{HasNorm, HasOrthogonalColumns, transposed}

-- ---- tables and their products
-- to have the same entries is an equivalence of tables
pub record IsEquivalence (n : ℕ) : Type 0 where
  pub reflexive : (a : ScaledTable) → SameTable n a a
  pub symmetric : (a b : ScaledTable) → SameTable n a b → SameTable n b a
  pub transitive : (a b c : ScaledTable) → SameTable n a b → SameTable n b c → SameTable n a c

abbrev pub TablesCompare : Type 0
TablesCompare = (n : ℕ) → IsEquivalence n

-- tables with their product are a monoid, up to the same entries
pub record IsMonoid (n : ℕ) : Type 0 where
  pub associative : (a b c : ScaledTable) → SameTable n (table_product n (table_product n a b) c) (table_product n a (table_product n b c))
  pub left_identity : (a : ScaledTable) → SameTable n (table_product n identity_table a) a
  pub right_identity : (a : ScaledTable) → SameTable n (table_product n a identity_table) a
  pub congruent : (a a' b b' : ScaledTable) → SameTable n a a' → SameTable n b b' → SameTable n (table_product n a b) (table_product n a' b')

abbrev pub TablesMultiply : Type 0
TablesMultiply = (n : ℕ) → IsMonoid n

-- what steps and then others build is the product, the later ones' table leftmost
abbrev pub StepsMultiply : Type 0
StepsMultiply = (n : ℕ) (s t : List Step) → SameTable n (built n (s ++ t)) (table_product n (built n t) (built n s))

-- the tables of two steps are inverse to each other
pub record UndoEachOther (n : ℕ) (s t : Step) : Type 0 where
  pub there : SameTable n (table_product n (table_of_step n s) (table_of_step n t)) identity_table
  pub back : SameTable n (table_product n (table_of_step n t) (table_of_step n s)) identity_table

-- those of a rotation and its inverse
abbrev pub RotationsUndo : Type 0
RotationsUndo = (n p : ℕ) → p < 4 ^ n → p ≢ 0 → UndoEachOther n (by_rotation p) (by_inverse_rotation p)

-- ---- norms
-- with the exponent k, the channel of a circuit has the norm 2^k in each column
abbrev pub ChannelsHaveNorms : Type 0
ChannelsHaveNorms = (n : ℕ) → 0 < n → n ≤ 3 → (m : ScaledTable) → IsCircuitChannel n m → HasNorm (4 ^ n) m.exponent m.table

-- with the norm 2^k, where k is at most 2j, each number of a table is at most 2^j in absolute value
abbrev pub NormsBoundEntries : Type 0
NormsBoundEntries = (size k j : ℕ) (m : SurdTable) → HasNorm size k m → k ≤ j + j → (row column : ℕ) → row < size → column < size → SurdWithin (2 ^ j) (m row column)

-- the columns of a circuit's channel are orthogonal
abbrev pub ColumnsAreOrthogonal : Type 0
ColumnsAreOrthogonal = (n : ℕ) → 0 < n → n ≤ 3 → (m : ScaledTable) → IsCircuitChannel n m → HasOrthogonalColumns (4 ^ n) m.exponent m.table

-- and so are its rows
abbrev pub RowsAreOrthogonal : Type 0
RowsAreOrthogonal = (n : ℕ) → 0 < n → n ≤ 3 → (m : ScaledTable) → IsCircuitChannel n m → HasOrthogonalColumns (4 ^ n) m.exponent (transposed m.table)
