-- Pairs of numbers in one list that become their difference and their sum, as the rows of a table do under a rotation.
-- Source: Gosset, Kliuchnikov, Mosca and Russo, An algorithm for the T-count, 2014, section 2.3.
use Rattle.std.specs.Prelude.{◌≡◌, ℕ, ◌+◌, ◌<◌, ◌≤◌, ◌⊎◌, ℤ, pos, neg_ℤ, ◌≤ℤ◌, ◌+ℤ◌, ◌-ℤ◌, List, length, FitsSigned, slice_index_or}
use Rattle.std.specs.Int.{w16}
use Rattle.std.specs.Simd.Lanes.{Each1, Each2}

-- the number at a place of a list
abbrev pub number : List ℤ → ℕ → ℤ
number numbers place = slice_index_or numbers place (pos 0)

-- the largest number of which a sum of two fits sixteen bits
abbrev pub most_small : ℕ
most_small = 16383

pub record IsSmall (z : ℤ) : Type 0 where
  pub low : neg_ℤ (pos most_small) ≤ℤ z
  pub high : z ≤ℤ pos most_small

-- each lane is a number of sixteen bits, and so are the difference and the sum of each pair of lanes
pub record LanesFit (xs ys : List ℤ) : Type 0 where
  pub left : Each1 (FitsSigned w16) xs
  pub right : Each1 (FitsSigned w16) ys
  pub less : Each2 (λ x y. FitsSigned w16 (x -ℤ y)) xs ys
  pub more : Each2 (λ x y. FitsSigned w16 (x +ℤ y)) xs ys

-- two runs of so many places don't meet
abbrev pub AreApart : ℕ → ℕ → ℕ → Type 0
AreApart x y count = (x + count ≤ y) ⊎ (y + count ≤ x)

-- a place lies before or behind a run of places
abbrev pub IsOutside : ℕ → ℕ → ℕ → Type 0
IsOutside start count place = (place < start) ⊎ (start + count ≤ place)

-- two runs of places lie in a list, and have small numbers
pub record HasSmallPairs (x y count : ℕ) (numbers : List ℤ) : Type 0 where
  pub first_end : x + count ≤ length numbers
  pub second_end : y + count ≤ length numbers
  pub first : (k : ℕ) → k < count → IsSmall (number numbers (x + k))
  pub second : (k : ℕ) → k < count → IsSmall (number numbers (y + k))

-- each number of the one run becomes its difference with that of the other, which becomes the sum of both. The other
-- numbers stay
pub record TurnsPairs (x y count : ℕ) (old new : List ℤ) : Type 0 where
  pub first : (k : ℕ) → k < count → number new (x + k) ≡ number old (x + k) -ℤ number old (y + k)
  pub second : (k : ℕ) → k < count → number new (y + k) ≡ number old (y + k) +ℤ number old (x + k)
  pub others : (place : ℕ) → IsOutside x count place → IsOutside y count place → number new place ≡ number old place
