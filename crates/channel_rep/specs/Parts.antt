-- Cells a + b·√2 kept as two lists of numbers of sixteen bits: one of their whole parts, and one of their parts of √2.
-- The layout is this program's own; that a column's norm bounds its numbers is Hardy and Wright, chapter XIV.
use Rattle.std.specs.Prelude.{◌≡◌, ℕ, ◌*◌, ◌^◌, ◌≤◌, ℤ, List, length}
use Rattle.std.specs.Simd.Lanes.{zip2}
use Rattle.tc_ring.specs.declared.root2.Root2.{Root2}
use Rattle.channel_rep.specs.Cells.{ChannelGrid, IsChannelGrid}

-- the cells of these parts
abbrev pub cells_of : List ℤ → List ℤ → List Root2
cells_of whole_parts root_parts = zip2 (λ a b. record { a = a; b = b }) whole_parts root_parts

-- the largest exponent of a channel with such cells. At it both numbers of each cell are at most 2^14 in absolute value, and
-- below it they are less, so that a sum of two fits sixteen bits
abbrev pub most_narrow_exponent : ℕ
most_narrow_exponent = 28

-- a channel of no larger exponent
pub record IsNarrowGrid (m : ChannelGrid) : Type 0 where
  pub channel : IsChannelGrid m
  pub low : m.exponent ≤ most_narrow_exponent

-- what a `Narrow` with these fields shows
abbrev pub narrow_grid : ℕ → ℕ → List ℤ → List ℤ → ChannelGrid
narrow_grid n k whole_parts root_parts = record { qubits = n; exponent = k; cells = cells_of whole_parts root_parts }

-- both lists have a number for each cell
pub record IsNarrow (n k : ℕ) (whole_parts root_parts : List ℤ) : Type 0 where
  pub whole_places : length whole_parts ≡ 4 ^ n * 4 ^ n
  pub root_places : length root_parts ≡ 4 ^ n * 4 ^ n
  pub grid : IsNarrowGrid (narrow_grid n k whole_parts root_parts)
