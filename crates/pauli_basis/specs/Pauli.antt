-- A Pauli operator as a value of the code, and its text.
use Rattle.std.specs.Prelude.{ℕ, zero, suc, ◌^◌, ◌<◌, ◌≤◌, List, [], ◌∷◌}
use Rattle.pauli_basis.specs.Letters.{letter_of}

-- a Pauli operator: how many qubits it has, and its code
pub record PauliString : Type 0 where
  pub qubits : ℕ
  pub code : ℕ

-- a Pauli on 1 to 3 qubits has a code below 4 ^ n
pub record IsPauliCode (qubits code : ℕ) : Type 0 where
  pub some : 0 < qubits
  pub few : qubits ≤ 3
  pub below : code < 4 ^ qubits

-- the ASCII code of a letter: I, X, Y or Z
abbrev pub letter_glyph : ℕ → ℕ
letter_glyph zero = 73
letter_glyph (suc zero) = 88
letter_glyph (suc (suc zero)) = 89
letter_glyph (suc (suc (suc _))) = 90

-- the letters of n qubits, that of qubit n − 1 first
abbrev pub pauli_text : ℕ → ℕ → List ℕ
pauli_text zero code = []
pauli_text (suc n) code = letter_glyph (letter_of n code) ∷ pauli_text n code
