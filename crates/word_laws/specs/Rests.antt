-- What is left of a table where a word's inverse stands before it.
use Rattle.std.specs.Prelude.{ℕ, List, [], ◌∷◌}
use Rattle.channel_rep.specs.Tables.{ScaledTable, by_inverse_rotation, stepped}

-- the inverse rotations of the letters, that of the first letter first: R(Pt)⁻¹· .. ·R(P1)⁻¹ times the table
abbrev pub taken_off : ℕ → List ℕ → ScaledTable → ScaledTable
taken_off n [] m = m
taken_off n (p ∷ word) m = taken_off n word (stepped n (by_inverse_rotation p) m)
