-- How large the coordinates of a number of Z[ω] are.
use Rattle.std.specs.Prelude.{ℕ, pos, ◌≤ℤ◌, neg_ℤ}
use Rattle.ring_laws.specs.Cyclotomic.{Zω}

-- each of the four coordinates is at most the bound in absolute value
pub record IsWithin (bound : ℕ) (a : Zω) : Type 0 where
  pub low0 : neg_ℤ (pos bound) ≤ℤ a.x0
  pub high0 : a.x0 ≤ℤ pos bound
  pub low1 : neg_ℤ (pos bound) ≤ℤ a.x1
  pub high1 : a.x1 ≤ℤ pos bound
  pub low2 : neg_ℤ (pos bound) ≤ℤ a.x2
  pub high2 : a.x2 ≤ℤ pos bound
  pub low3 : neg_ℤ (pos bound) ≤ℤ a.x3
  pub high3 : a.x3 ≤ℤ pos bound
