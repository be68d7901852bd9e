-- Natural numbers that stand for whole ones modulo m.
-- Source: Hardy and Wright, An Introduction to the Theory of Numbers, chapter V.
use Rattle.std.specs.Prelude.{◌≡◌, ℕ, ℤ, pos, ◌+ℤ◌, ◌*ℤ◌}

-- f and the whole number z differ by a multiple of m
abbrev pub IsCongruent : ℕ → ℤ → ℕ → Type 0
IsCongruent m z f = (q : ℤ) × (pos f ≡ z +ℤ q *ℤ pos m)
