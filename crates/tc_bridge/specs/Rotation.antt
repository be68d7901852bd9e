-- The rotations by Pauli operators, and words of them.
-- Source: Gosset, Kliuchnikov, Mosca and Russo, An algorithm for the T-count, 2014, section 2.2.
use Rattle.std.specs.Prelude.{◌≡◌, ℕ, ◌+◌, ◌^◌, ◌<◌, List, [], ◌∷◌}
use Rattle.ring_laws.specs.Ring.{power}
use Rattle.ring_laws.specs.Matrix.{product, identity}
use Rattle.ring_laws.specs.Cyclotomic.{Zω, cyclotomics, plus, times, negative, ω, root2, one_number}
use Rattle.tc_circuit.specs.Gate.{Table}
use Rattle.tc_circuit.specs.Model.{ScaledMatrix}
use Rattle.tc_bridge.specs.Pauli.{pauli_matrix}

-- a·I + b·P
unfoldable pub axis : ℕ → Zω → Zω → ℕ → Table
axis n a b p row column = plus (times a (identity cyclotomics row column)) (times b (pauli_matrix n p row column))

-- R(P) = ((1 + ω)·I + (1 − ω)·P)/2, where 2 = √2²
abbrev pub rotation : ℕ → ℕ → ScaledMatrix
rotation n p = record { table = axis n (plus one_number ω) (plus one_number (negative ω)) p; exponent = 2 }

-- ---- matrices over a power of √2
-- a·b
abbrev pub scaled_product : ℕ → ScaledMatrix → ScaledMatrix → ScaledMatrix
scaled_product n a b = record { table = product cyclotomics (2 ^ n) a.table b.table; exponent = a.exponent + b.exponent }

-- the same entries, both brought to one power of √2
abbrev pub AreEqual : ℕ → ScaledMatrix → ScaledMatrix → Type 0
AreEqual size a b = (row column : ℕ) → row < size → column < size →
    times (power cyclotomics root2 b.exponent) (a.table row column) ≡ times (power cyclotomics root2 a.exponent) (b.table row column)

-- ---- words
-- R(P1)·R(P2)· .. ·R(Pt); the identity for the empty word
abbrev pub word_matrix : ℕ → List ℕ → ScaledMatrix
word_matrix n [] = record { table = identity cyclotomics; exponent = 0 }
word_matrix n (p ∷ word) = scaled_product n (rotation n p) (word_matrix n word)
