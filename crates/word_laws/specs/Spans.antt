-- The span of some codes: codes are vectors of bits, and the exclusive or is their sum.
-- Source: Gottesman, The Heisenberg representation of quantum computers, 1998, for Paulis as vectors of bits.
use Rattle.std.specs.Prelude.{◌≡◌, ℕ, ◌⊎◌, List, [], ◌∷◌, Contains}
use Rattle.pauli_basis.specs.Products.{product_code}

-- a code is the exclusive or of some of these codes
abbrev pub IsInSpan : List ℕ → ℕ → Type 0
IsInSpan [] v = v ≡ 0
IsInSpan (p ∷ codes) v = IsInSpan codes v ⊎ IsInSpan codes (product_code p v)

-- the span is a subspace that holds the codes: with two of its own it holds their exclusive or
pub record IsSubspace (codes : List ℕ) : Type 0 where
  pub zero : IsInSpan codes 0
  pub members : (p : ℕ) → Contains codes p → IsInSpan codes p
  pub closed : (v w : ℕ) → IsInSpan codes v → IsInSpan codes w → IsInSpan codes (product_code v w)
