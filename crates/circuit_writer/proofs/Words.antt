-- The texts of Paulis are the letters of a word.
use Rattle.std.proofs.Common.{◌≡◌, ℕ, zero, suc, List, length, refl, ◌∙◌, arith}
use Rattle.std.specs.Prelude.{codes, Contains}
use Rattle.std.specs.List.{All}
use Rattle.std.proofs.lemmas.List.{length-map}
use Rattle.std.proofs.lemmas.List.Elements.{All-map, All-weaker, All-nil, All-cons}
use Rattle.pauli_basis.specs.Letters.{letter_of}
use Rattle.pauli_basis.specs.Pauli.{PauliString, pauli_text, letter_glyph}
use Rattle.pauli_basis.proofs.Text.{length-pauli_text}
use Rattle.circuit_writer.specs.Shown.{IsLetter, IsWord, letter_texts}

-- a letter's character is one of I, X, Y and Z
Contains-glyph : (letter : ℕ) → Contains (codes "IXYZ") (letter_glyph letter)
Contains-glyph zero = (0, omega arith, refl)
Contains-glyph (suc zero) = (1, omega arith, refl)
Contains-glyph (suc (suc zero)) = (2, omega arith, refl)
Contains-glyph (suc (suc (suc _))) = (3, omega arith, refl)

-- so is each character of a Pauli's text
All-pauli_text : (n code : ℕ) → All (λ (c : ℕ). Contains (codes "IXYZ") c) (pauli_text n code)
All-pauli_text zero code = All-nil (λ (c : ℕ). Contains (codes "IXYZ") c)
All-pauli_text (suc n) code =
    All-cons (λ (c : ℕ). Contains (codes "IXYZ") c) (letter_glyph (letter_of n code)) (pauli_text n code) (Contains-glyph (letter_of n code)) (All-pauli_text n code)

-- the text of a Pauli on n qubits is a letter on n qubits
IsLetter-pauli_text : (n : ℕ) (letter : PauliString) → letter.qubits ≡ n → IsLetter n (pauli_text letter.qubits letter.code)
IsLetter-pauli_text n letter e = (length-pauli_text letter.qubits letter.code ∙ e, All-pauli_text letter.qubits letter.code)

-- the texts of Paulis on n qubits are a word on n qubits
pub IsWord-letter_texts : (n : ℕ) (word : List PauliString) → All (λ (letter : PauliString). letter.qubits ≡ n) word → IsWord n (length word) (letter_texts word)
IsWord-letter_texts n word h = (
  simp length-map,
  All-map (λ (text : List ℕ). IsLetter n text) (λ (letter : PauliString). pauli_text letter.qubits letter.code) word
      (All-weaker (λ (letter : PauliString). letter.qubits ≡ n) (λ (letter : PauliString). IsLetter n (pauli_text letter.qubits letter.code)) (IsLetter-pauli_text n) word h),
)
