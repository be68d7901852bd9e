-- What is left of a target, with what tells its least exponents.
-- Source: Giles and Selinger, Exact synthesis of multiqubit Clifford+T circuits, 2013, for least denominator exponents and residues
-- modulo 2.
use Rattle.std.specs.Prelude.{◌≡◌, ℕ, ◌<◌, ◌≤◌}
use Rattle.channel_rep.specs.Cells.{ChannelGrid, table_of, IsReduced}
use Rattle.channel_rep.specs.Tables.{ScaledTable, SameTable}
use Rattle.coset_label.specs.Labels.{HasLeastExponent}
use Rattle.quick_label.specs.ParityWords.{ParityWords, HoldsParities}

-- a table's least exponent: that of a table of the same value which has the least one
pub record IsLeastExponentOf (n : ℕ) (m : ScaledTable) (exponent : ℕ) : Type 0 where
  pub reduced : ScaledTable
  pub same : SameTable n reduced m
  pub least : HasLeastExponent n reduced
  pub is : reduced.exponent ≡ exponent

-- a channel with the least exponent, on one to three qubits, and the parities of its numbers
pub record IsRemainder (m : ChannelGrid) (words : ParityWords) : Type 0 where
  pub some : 0 < m.qubits
  pub few : m.qubits ≤ 3
  pub reduced : IsReduced m
  pub parities : HoldsParities m.qubits (table_of m) words
