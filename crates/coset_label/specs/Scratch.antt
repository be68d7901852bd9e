-- What contracts see of a `Scratch`: the label that it holds. And how the label is kept: the channel's cells as they are,
-- which column stands at each place, and which columns have their signs turned.
use Rattle.std.specs.Prelude.{◌≡◌, ◌≢◌, ℕ, ◌+◌, ◌^◌, ◌<◌, ◌≤◌, neg_ℤ, Bool, false, if◌then◌else◌, List, length, map, All, slice_index, slice_index_or}
use Rattle.std.specs.Ordering.{int_cmp, is_lt}
use Rattle.std.specs.Cmp.Lexicographic.{slice_cmp}
use Rattle.tc_ring.specs.Surds.{Surd, zero_surd}
use Rattle.channel_rep.specs.Tables.{signed}
use Rattle.channel_rep.specs.Cells.{ChannelGrid, table_of}
use Rattle.coset_label.specs.Labels.{Column, Label, column_of, leads_negative, with_fixed_sign}

-- a label, and on how many qubits
pub record HeldLabel : Type 0 where
  pub qubits : ℕ
  pub label : Label

-- a column, or its negative
abbrev pub turned_column : Bool → Column → Column
turned_column negative column = if negative then map neg_ℤ column else column

-- a channel's column with its sign as the list of signs tells
abbrev pub kept_column : ChannelGrid → List Bool → ℕ → Column
kept_column m negative column = turned_column (slice_index_or negative column false) (column_of m.qubits (table_of m) column)

-- the label that a channel's columns with these signs make in this order
abbrev pub kept_label : ChannelGrid → List Bool → List ℕ → Label
kept_label m negative order = record { exponent = m.exponent; columns = map (kept_column m negative) order }

-- a sign for each column, and a column at each place
pub record IsArranged (m : ChannelGrid) (negative : List Bool) (order : List ℕ) : Type 0 where
  pub signs : length negative ≡ 4 ^ m.qubits
  pub places : length order ≡ 4 ^ m.qubits
  pub below : All (λ column. column < 4 ^ m.qubits) order

-- the same on one to three qubits, and room for a lead row of each column
pub record IsScratch (m : ChannelGrid) (leads : List ℕ) (negative : List Bool) (order : List ℕ) : Type 0 where
  pub some : 0 < m.qubits
  pub few : m.qubits ≤ 3
  pub rows : length leads ≡ 4 ^ m.qubits
  pub kept : IsArranged m negative order

-- the row of a column's first entry other than 0, or the number of rows, and whether its first number other than 0 is
-- negative
pub record IsLead (m : ChannelGrid) (column lead : ℕ) (negative : Bool) : Type 0 where
  pub low : lead ≤ 4 ^ m.qubits
  pub zeros : (row : ℕ) → row < lead → table_of m row column ≡ zero_surd
  pub other : lead < 4 ^ m.qubits → table_of m lead column ≢ zero_surd
  pub sign : negative ≡ leads_negative (column_of m.qubits (table_of m) column)

-- the same for all columns
abbrev pub AreLeads : ChannelGrid → List ℕ → List Bool → Type 0
AreLeads m leads negative = (column : ℕ) → column < 4 ^ m.qubits → IsLead m column (slice_index_or leads column 0) (slice_index_or negative column false)

-- a channel's column with its sign fixed
abbrev pub fixed_column : ChannelGrid → ℕ → Column
fixed_column m column = with_fixed_sign (column_of m.qubits (table_of m) column)

-- what the comparison of two columns goes by: the lead rows and the signs of all columns
pub record KnowsLeads (m : ChannelGrid) (size : ℕ) (leads : List ℕ) (negative : List Bool) : Type 0 where
  pub few : m.qubits ≤ 3
  pub rows : size ≡ 4 ^ m.qubits
  pub places : length leads ≡ size
  pub signs : length negative ≡ size
  pub settled : AreLeads m leads negative

-- whether a column with its sign fixed comes before another in the label's order
abbrev pub precedes : ChannelGrid → ℕ → ℕ → Bool
precedes m x y = is_lt (slice_cmp int_cmp (fixed_column m x) (fixed_column m y))

-- the lead row of the column that stands at a place
abbrev pub lead_at : List ℕ → List ℕ → ℕ → ℕ
lead_at leads order place = slice_index leads (slice_index order place)

-- no column leads later than the one before it
abbrev pub LeadsFall : List ℕ → List ℕ → Type 0
LeadsFall leads order = (place : ℕ) → place + 1 < length order → lead_at leads order (place + 1) ≤ lead_at leads order place

-- from one place up to another all columns have one lead row
abbrev pub HaveOneLead : List ℕ → List ℕ → ℕ → ℕ → Type 0
HaveOneLead leads order from to = (place : ℕ) → from ≤ place → place < to → lead_at leads order place ≡ lead_at leads order from

-- the cell of a row that stands at a place, with its column's sign
abbrev pub cell_at : (ℕ → Surd) → List Bool → List ℕ → ℕ → Surd
cell_at cell negative order place = let column = slice_index order place in signed (slice_index_or negative column false) (cell column)

-- the cell at a row and a place of the label
abbrev pub placed_cell : ChannelGrid → List Bool → List ℕ → ℕ → ℕ → Surd
placed_cell m negative order row place = cell_at (λ column. table_of m row column) negative order place
