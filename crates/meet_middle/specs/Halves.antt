-- The word that two halves spell, with what stands between them.
use Rattle.std.specs.Prelude.{ℕ, List, [], ◌∷◌, ◌++◌, Option, None, Some}
use Rattle.pauli_basis.specs.Pauli.{PauliString}

-- the middle letter, as a list
abbrev pub middle_letters : Option PauliString → List ℕ
middle_letters None = []
middle_letters (Some p) = p.code ∷ []

-- the first half, the middle letter, the last half
abbrev pub spelled : List ℕ → Option PauliString → List ℕ → List ℕ
spelled first middle last = first ++ (middle_letters middle ++ last)
