-- Words of bits that tell the parities of a table's numbers.
use Rattle.std.proofs.Common.{◌≡◌, ◌↔◌, ℕ, ◌^◌, ◌<◌, Bool, true, false, List, length, slice_index, slice_index_or, ap, sym, ◌∙◌, arith, lit<}
use Rattle.std.specs.Prelude.{ℤ}
use Rattle.std.proofs.Math.Nat.{one-le-pow}
use Rattle.std.proofs.lemmas.Nat.Bits.{same_from_bits_below, bit_at-zero}
use Rattle.std.specs.Int.{bit_at}
use Rattle.pauli_basis.specs.Products.{product_code, commute}
use Rattle.pauli_basis.proofs.Products.{product_code-lt}
use Rattle.channel_rep.specs.Tables.{SurdTable}
use Rattle.word_laws.specs.Parities.{parity, AreParities, WholesAgree, PartsAgree, CommutingEven}

-- in the rows that anticommute the words are their partners'
abbrev pub WordsAgree : ℕ → ℕ → List ℕ → List Bool → Type 0
WordsAgree rows p words commutes = (row : ℕ) → row < rows → slice_index_or commutes row false ≡ false → slice_index words row ≡ slice_index words (product_code p row)

-- in the rows that commute they are 0
abbrev pub WordsEven : ℕ → List ℕ → List Bool → Type 0
WordsEven rows words commutes = (row : ℕ) → row < rows → slice_index_or commutes row false ≡ true → slice_index words row ≡ 0

-- words whose bits are the parities of some numbers
module _ (n p rows : ℕ) (many : rows ≡ 4 ^ n) (code : p < 4 ^ n) (number : ℕ → ℕ → ℤ) (words : List ℕ) (commutes : List Bool)
    (below : (row : ℕ) → row < 4 ^ n → slice_index words row < 2 ^ 4 ^ n)
    (bits : (row column : ℕ) → row < 4 ^ n → column < 4 ^ n → bit_at (slice_index words row) column ≡ parity (number row column))
    (commuting : (row : ℕ) → row < 4 ^ n → slice_index_or commutes row false ≡ commute n p row) where
  -- words are equal where the parities are
  agree_by_words : WordsAgree rows p words commutes
      ↔ ((row column : ℕ) → row < 4 ^ n → column < 4 ^ n → commute n p row ≡ false → parity (number row column) ≡ parity (number (product_code p row) column))
  agree_by_words = (
    λ same row column l k e.
        sym (bits row column l k) ∙ ap (λ w. bit_at w column) (same row (omega arith) (commuting row l ∙ e)) ∙ bits (product_code p row) column (product_code-lt n p row code l) k,
    λ agree row l e.
        let low : row < 4 ^ n = omega arith in
        let partner = product_code-lt n p row code low in
        same_from_bits_below (4 ^ n) _ _ (below row low) (below (product_code p row) partner)
        (λ column k. bits row column low k ∙ agree row column low k (sym (commuting row low) ∙ e) ∙ sym (bits (product_code p row) column partner k)),
  )

  -- and 0 where the parities are
  even_by_words : WordsEven rows words commutes ↔ ((row column : ℕ) → row < 4 ^ n → column < 4 ^ n → commute n p row ≡ true → parity (number row column) ≡ 0)
  even_by_words = (
    λ none row column l k e. sym (bits row column l k) ∙ ap (λ w. bit_at w column) (none row (omega arith) (commuting row l ∙ e)) ∙ bit_at-zero column,
    λ even row l e.
        let low : row < 4 ^ n = omega arith in
        same_from_bits_below (4 ^ n) _ 0 (below row low) (one-le-pow (4 ^ n) 2 (lit< tt))
        (λ column k. bits row column low k ∙ even row column low k (sym (commuting row low) ∙ e) ∙ sym (bit_at-zero column)),
  )

module _ (n p : ℕ) (m : SurdTable) (wholes parts : List ℕ) (commutes : List Bool) (h : AreParities n p m wholes parts commutes) where
  -- the whole parts agree in the pairs of rows
  pub wholes_by_words : WordsAgree (length wholes) p wholes commutes ↔ WholesAgree n p m
  wholes_by_words = agree_by_words n p (length wholes) h.rows h.code (λ row column. (m row column).a) wholes commutes h.wholes_below h.whole_bits h.commuting

  -- the parts of √2 do
  pub parts_by_words : length parts ≡ length wholes → WordsAgree (length parts) p parts commutes ↔ PartsAgree n p m
  parts_by_words e = agree_by_words n p (length parts) (e ∙ h.rows) h.code (λ row column. (m row column).b) parts commutes h.parts_below h.part_bits h.commuting

  -- the whole parts are even in the rows that commute
  pub wholes_even_by_words : WordsEven (length wholes) wholes commutes ↔ CommutingEven n p m
  wholes_even_by_words = even_by_words n p (length wholes) h.rows h.code (λ row column. (m row column).a) wholes commutes h.wholes_below h.whole_bits h.commuting
