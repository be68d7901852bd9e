-- Cosets of the Clifford group, by channels: two unitaries differ by a Clifford operator on the right exactly where the
-- columns of their channels agree up to order and signs.
-- Source: Gosset, Kliuchnikov, Mosca and Russo, An algorithm for the T-count, 2014, section 4.
use Rattle.std.specs.Prelude.{◌≡◌, ℕ, ◌^◌, ◌<◌, Bool, List}
use Rattle.ring_laws.specs.Ring.{power}
use Rattle.ring_laws.specs.Matrix.{product}
use Rattle.tc_ring.specs.Surds.{surds, surd_times, root2_surd}
use Rattle.channel_rep.specs.Tables.{SurdTable, ScaledTable, SameTable, signed}
use Rattle.channel_rep.specs.Cells.{HasOneUnit}
use Rattle.coset_label.specs.Words.{word_channel}

-- a column of one table is, up to sign, a column of another, both brought to one power of √2
pub record IsColumnUpToSign (n : ℕ) (a : ScaledTable) (column : ℕ) (b : ScaledTable) (other : ℕ) : Type 0 where
  pub negative : Bool
  pub cells : (row : ℕ) → row < 4 ^ n
      → surd_times (power surds root2_surd b.exponent) (a.table row column) ≡ signed negative (surd_times (power surds root2_surd a.exponent) (b.table row other))

-- each column of a is, up to sign, a column of b
abbrev pub HasColumnsOf : ℕ → ScaledTable → ScaledTable → Type 0
HasColumnsOf n b a = (column : ℕ) → column < 4 ^ n → (other : ℕ) × (other < 4 ^ n) × IsColumnUpToSign n a column b other

-- two tables lie in one coset where each column of one is, up to sign, a column of the other, both ways
pub record SameCoset (n : ℕ) (a b : ScaledTable) : Type 0 where
  pub there : HasColumnsOf n b a
  pub back : HasColumnsOf n a b

-- two words lie in one coset where their channels do
abbrev pub SameCosetWords : ℕ → List ℕ → List ℕ → Type 0
SameCosetWords n v w = SameCoset n (word_channel n v) (word_channel n w)

-- in each row and each column one entry 1 or −1 and else 0
pub record IsSignedPermutationTable (n : ℕ) (m : SurdTable) : Type 0 where
  pub rows : (row : ℕ) → row < 4 ^ n → HasOneUnit (4 ^ n) (λ column. m row column)
  pub columns : (column : ℕ) → column < 4 ^ n → HasOneUnit (4 ^ n) (λ row. m row column)

-- a is b·Π for a signed permutation Π
pub record DiffersByPermutation (n : ℕ) (a b : ScaledTable) : Type 0 where
  pub permutation : SurdTable
  pub is : IsSignedPermutationTable n permutation
  pub product_is : SameTable n a (record { table = product surds (4 ^ n) b.table permutation; exponent = b.exponent })
