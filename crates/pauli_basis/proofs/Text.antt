-- Lemmas for the crates above: the text of a Pauli, letter by letter.
use Rattle.std.proofs.Common.{◌≡◌, ℕ, zero, suc, ◌-◌, ◌<◌, ◌≤◌, List, [], ◌∷◌, ◌++◌, length, take, refl, ap, sym, ◌∙◌, arith, inl, inr}
use Rattle.std.proofs.lemmas.Bool.{cases_eq}
use Rattle.std.proofs.lemmas.List.{take_all}
use Rattle.pauli_basis.specs.Letters.{letter_of}
use Rattle.pauli_basis.specs.Pauli.{letter_glyph, pauli_text}

-- one byte a letter
pub length-pauli_text : (n code : ℕ) → length (pauli_text n code) ≡ n
length-pauli_text zero code = refl
length-pauli_text (suc n) code = ap suc (length-pauli_text n code)

-- the letters down to qubit q, and then that of qubit q
pub pauli_text_more : (n q code : ℕ) → q < n → take (n - suc q) (pauli_text n code) ++ (letter_glyph (letter_of q code) ∷ []) ≡ take (n - q) (pauli_text n code)
pauli_text_more zero q code l = absurd (omega arith)
pauli_text_more (suc n) q code l = elim (cases_eq q n) [
  | inl e ↦
      let none : suc n - suc q ≡ 0 = omega arith in
      let one : suc n - q ≡ suc 0 = omega arith in
      ap (λ k. take k (pauli_text (suc n) code) ++ (letter_glyph (letter_of q code) ∷ [])) none
      ∙ ap (λ k. letter_glyph (letter_of k code) ∷ []) e
      ∙ sym (ap (λ k. take k (pauli_text (suc n) code)) one)
  | inr d ↦
      let lower : q < n = omega arith in
      let before : suc n - suc q ≡ suc (n - suc q) = omega arith in
      let after : suc n - q ≡ suc (n - q) = omega arith in
      ap (λ k. take k (pauli_text (suc n) code) ++ (letter_glyph (letter_of q code) ∷ [])) before
      ∙ ap (λ xs. letter_glyph (letter_of n code) ∷ xs) (pauli_text_more n q code lower)
      ∙ sym (ap (λ k. take k (pauli_text (suc n) code)) after)
]

-- the letters down to qubit 0 are the text
pub pauli_text_all : (n q code : ℕ) → q ≡ 0 → take (n - q) (pauli_text n code) ≡ pauli_text n code
pauli_text_all n q code e = take_all (n - q) (pauli_text n code) (omega (arith, length-pauli_text n code))

-- one letter more, as the loop writes it
pub pauli_text_step : (n q code letter : ℕ) (bs : List ℕ) → 0 < q → q ≤ n → letter ≡ letter_of (q - 1) code → bs ≡ letter_glyph letter ∷ []
    → take (n - q) (pauli_text n code) ++ bs ≡ take (n - (q - 1)) (pauli_text n code)
pauli_text_step n q code letter bs some few e d =
    let at : n - q ≡ n - suc (q - 1) = omega arith in
    (λ i. take (at i) (pauli_text n code) ++ d i) ∙ ap (λ l. take (n - suc (q - 1)) (pauli_text n code) ++ (letter_glyph l ∷ [])) e
    ∙ pauli_text_more n (q - 1) code (omega arith)
