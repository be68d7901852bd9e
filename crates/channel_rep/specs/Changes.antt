-- What a loop over the rows of a table does at one row.
use Rattle.std.specs.Prelude.{◌≡◌, ◌≢◌, ℕ, ◌<◌, List}
use Rattle.tc_ring.specs.Surds.{Surd}
use Rattle.tc_ring.specs.declared.root2.Root2.{Root2}
use Rattle.channel_rep.specs.Tables.{SurdTable}
use Rattle.channel_rep.specs.Cells.{entries}

-- the rows whose turn it is become those of a table that the cells before determine, and the other rows stay
pub record ChangesRows (size : ℕ) (turn : ℕ → ℕ) (row : ℕ) (changed : SurdTable → SurdTable) (old new : List Root2) : Type 0 where
  pub here : (r c : ℕ) → r < size → c < size → turn r ≡ row → entries size new r c ≡ changed (entries size old) r c
  pub elsewhere : (r c : ℕ) → r < size → c < size → turn r ≢ row → entries size new r c ≡ entries size old r c

-- two rows of a table become these rows, and the other rows stay
pub record ChangesPair (size low high : ℕ) (low_row high_row : ℕ → Surd) (old new : List Root2) : Type 0 where
  pub low_is : (c : ℕ) → c < size → entries size new low c ≡ low_row c
  pub high_is : (c : ℕ) → c < size → entries size new high c ≡ high_row c
  pub others : (r c : ℕ) → r < size → c < size → r ≢ low → r ≢ high → entries size new r c ≡ entries size old r c

-- one row of a table becomes this row, and the other rows stay
pub record ChangesRow (size row : ℕ) (new_row : ℕ → Surd) (old new : List Root2) : Type 0 where
  pub row_is : (c : ℕ) → c < size → entries size new row c ≡ new_row c
  pub others : (r c : ℕ) → r < size → c < size → r ≢ row → entries size new r c ≡ entries size old r c
