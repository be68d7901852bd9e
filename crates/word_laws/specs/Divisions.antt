-- How often a table can be divided by √2.
-- Source: Giles and Selinger, Exact synthesis of multiqubit Clifford+T circuits, 2013, for least denominator exponents.
use Rattle.std.specs.Prelude.{◌≡◌, ℕ, ◌+◌, ◌^◌, ◌<◌, ◌≤◌, Bool, true, false}
use Rattle.ring_laws.specs.Ring.{power}
use Rattle.tc_ring.specs.Surds.{surds, surd_times, root2_surd}
use Rattle.channel_rep.specs.Tables.{SurdTable, Step, by_rotation, by_inverse_rotation}

-- each entry is √2 to this power times that of some table
abbrev pub IsMultiple : ℕ → ℕ → SurdTable → Type 0
IsMultiple n count m = (quotient : SurdTable)
    × ((row column : ℕ) → row < 4 ^ n → column < 4 ^ n → surd_times (power surds root2_surd count) (quotient row column) ≡ m row column)

-- how often a table can be divided by √2, where 2 says at least twice
pub record IsDivisionCount (n : ℕ) (m : SurdTable) (count : ℕ) : Type 0 where
  pub few : count ≤ 2
  pub divides : IsMultiple n count m
  pub no_more : count < 2 → ¬ IsMultiple n (count + 1) m

-- the rotation by a letter, or its inverse
abbrev pub letter_step : Bool → ℕ → Step
letter_step true p = by_inverse_rotation p
letter_step false p = by_rotation p
