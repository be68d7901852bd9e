-- The parities of a rotation's numbers, from those of the numbers before.
use Rattle.std.proofs.Common.{◌≡◌, ◌↔◌, ℕ, ◌^◌, ◌<◌, Bool, true, false, not, ap, sym, ◌∙◌, arith, inl, inr, ◌⊎◌, zero, suc, subst}
use Rattle.std.specs.Prelude.{pos, neg_ℤ, ◌+ℤ◌, ◌*ℤ◌}
use Rattle.std.proofs.lemmas.Bool.{cases_Bool, cases_eq, cases_lt}
use Rattle.std.proofs.lemmas.Int.{ints}
use Rattle.tc_ring.specs.Surds.{Surd, surd_plus, surd_times, surd_negative, root2_surd, IsOdd}
use Rattle.tc_ring.proofs.Surds.{root2_surd-times, cancel_root2_surd, odd_is_no_multiple}
use Rattle.pauli_basis.specs.Products.{product_code, commute}
use Rattle.pauli_basis.proofs.Products.{product_code-lt}
use Rattle.channel_rep.specs.Tables.{SurdTable, ScaledTable, signed}
use Rattle.channel_rep.specs.Rows.{rotated}
use Rattle.coset_label.specs.Labels.{HasOddEntry}
use Rattle.word_laws.specs.Parities.{parity, WholesAgree, PartsAgree, CommutingEven}
use Rattle.channel_rep.proofs.Independent.{commuting_row, mixed_row}
use Rattle.word_laws.proofs.Rotations.{partner_sign, mixed_partner}

-- all whole parts are even
abbrev pub AllEven : ℕ → SurdTable → Type 0
AllEven n m = (row column : ℕ) → row < 4 ^ n → column < 4 ^ n → parity (m row column).a ≡ 0

-- ---- numbers
-- √2 times a number has an even whole part
pub root2_whole : (x y : Surd) → y ≡ surd_times root2_surd x → parity y.a ≡ 0
root2_whole x y e = let d : y.a ≡ pos 2 *ℤ x.b = ap (λ (s : Surd). s.a) (e ∙ root2_surd-times x) in omega (arith, ints)

-- and the whole part as its part of √2
root2_part : (x y : Surd) → y ≡ surd_times root2_surd x → y.b ≡ x.a
root2_part x y e = ap (λ (s : Surd). s.b) (e ∙ root2_surd-times x)

-- a sum or a difference has an even whole part exactly where the two whole parts have one parity
mixed_whole : (b : Bool) (x y z : Surd) → z ≡ surd_plus x (signed b y) → (parity z.a ≡ 0) ↔ (parity x.a ≡ parity y.a)
unfolding signed surd_plus surd_negative
mixed_whole true x y z e = let d : z.a ≡ x.a +ℤ neg_ℤ y.a = ap (λ (s : Surd). s.a) e in (λ h. omega (arith, ints), λ h. omega (arith, ints))
mixed_whole false x y z e = let d : z.a ≡ x.a +ℤ y.a = ap (λ (s : Surd). s.a) e in (λ h. omega (arith, ints), λ h. omega (arith, ints))

-- and likewise for the parts of √2
mixed_part : (b : Bool) (x y z : Surd) → z ≡ surd_plus x (signed b y) → (parity z.b ≡ 0) ↔ (parity x.b ≡ parity y.b)
unfolding signed surd_plus surd_negative
mixed_part true x y z e = let d : z.b ≡ x.b +ℤ neg_ℤ y.b = ap (λ (s : Surd). s.b) e in (λ h. omega (arith, ints), λ h. omega (arith, ints))
mixed_part false x y z e = let d : z.b ≡ x.b +ℤ y.b = ap (λ (s : Surd). s.b) e in (λ h. omega (arith, ints), λ h. omega (arith, ints))

-- ---- an odd entry, or none
-- of each number below one, or not of some
first_of : {P Q : ℕ → Type 0} → ((k : ℕ) → P k ⊎ Q k) → (size : ℕ) → ((k : ℕ) → k < size → P k) ⊎ ((k : ℕ) × (k < size) × Q k)
first_of decide zero = inl (λ k l. absurd (omega arith))
first_of {P} {Q} decide (suc size) = elim (first_of decide size) [
  | inr h ↦ inr (h.0, omega arith, h.2)
  | inl all ↦ elim (decide size) [
    | inr h ↦ inr (size, omega arith, h)
    | inl last ↦ inl (λ k l. elim (cases_lt k size) [ inl before ↦ all k before | inr after ↦ subst P (omega arith) last ])
  ]
]

-- a table has even whole parts alone, or an odd entry
pub even_or_odd : (n : ℕ) (m : ScaledTable) → AllEven n m.table ⊎ HasOddEntry n m
even_or_odd n m = elim (first_of row_of (4 ^ n)) [
  | inl all ↦ inl (λ row column l k. all row l column k)
  | inr h ↦ inr (record { row = h.0; column = h.2.0; row_below = h.1; column_below = h.2.1; odd = h.2.2 })
]
  where
    entry : (row column : ℕ) → (parity (m.table row column).a ≡ 0) ⊎ IsOdd (m.table row column).a
    entry row column = elim (cases_eq (parity (m.table row column).a) 0) [ inl e ↦ inl e | inr d ↦ inr (omega arith) ]

    row_of : (row : ℕ) → ((column : ℕ) → column < 4 ^ n → parity (m.table row column).a ≡ 0) ⊎ ((column : ℕ) × (column < 4 ^ n) × IsOdd (m.table row column).a)
    row_of row = first_of (entry row) (4 ^ n)

-- ---- a rotation

module _ (n : ℕ) (inverse : Bool) (p : ℕ) (m : SurdTable) where
  -- a rotation's whole parts are even exactly where the whole parts before agree in the pairs
  pub even_where_agree : AllEven n (rotated n inverse p m) ↔ WholesAgree n p m
  even_where_agree = (there, back)
    where
      there : AllEven n (rotated n inverse p m) → WholesAgree n p m
      there even row column l h e = (mixed_whole (partner_sign n inverse p row) (m row column) (m (product_code p row) column) _ (mixed_row n inverse p m row column e)).0 (even row column l h)

      back : WholesAgree n p m → AllEven n (rotated n inverse p m)
      back agree row column l h = elim (cases_Bool (commute n p row)) [
        | inl e ↦ root2_whole (m row column) _ (commuting_row n inverse p m row column e)
        | inr e ↦ (mixed_whole (partner_sign n inverse p row) (m row column) (m (product_code p row) column) _ (mixed_row n inverse p m row column e)).1 (agree row column l h e)
      ]

  -- and what is left over √2 has even ones exactly where the whole parts before are even in the rows that commute, and the parts of
  -- √2 agree in the pairs
  module _ (half : SurdTable) (is : (row column : ℕ) → row < 4 ^ n → column < 4 ^ n → surd_times root2_surd (half row column) ≡ rotated n inverse p m row column) where
    half_whole : (row column : ℕ) → row < 4 ^ n → column < 4 ^ n → (half row column).a ≡ (rotated n inverse p m row column).b
    half_whole row column l h = sym (root2_part (half row column) _ (sym (is row column l h)))

    -- exactly where these conditions hold
    pub even_half : AllEven n half ↔ (CommutingEven n p m × PartsAgree n p m)
    even_half = (λ even. (wholes even, parts even), λ both. back both.0 both.1)
      where
        wholes : AllEven n half → CommutingEven n p m
        wholes even row column l h e =
            sym (ap parity (half_whole row column l h ∙ root2_part (m row column) _ (commuting_row n inverse p m row column e))) ∙ even row column l h

        parts : AllEven n half → PartsAgree n p m
        parts even row column l h e =
            (mixed_part (partner_sign n inverse p row) (m row column) (m (product_code p row) column) _ (mixed_row n inverse p m row column e)).0
            (sym (ap parity (half_whole row column l h)) ∙ even row column l h)

        back : CommutingEven n p m → PartsAgree n p m → AllEven n half
        back wholes parts row column l h = elim (cases_Bool (commute n p row)) [
          | inl e ↦ ap parity (half_whole row column l h ∙ root2_part (m row column) _ (commuting_row n inverse p m row column e)) ∙ wholes row column l h e
          | inr e ↦
              ap parity (half_whole row column l h)
              ∙ (mixed_part (partner_sign n inverse p row) (m row column) (m (product_code p row) column) _ (mixed_row n inverse p m row column e)).1 (parts row column l h e)
        ]

-- ---- never three times
-- 2 times a number
whole_twice : (x y : Surd) → surd_times root2_surd (surd_times root2_surd x) ≡ y → y.a ≡ pos 2 *ℤ x.a
whole_twice x y e = ap (λ (s : Surd). s.a) (sym e ∙ root2_surd-times (surd_times root2_surd x)) ∙ ap (λ z. pos 2 *ℤ z) (ap (λ (s : Surd). s.b) (root2_surd-times x))

-- of a sum and a difference that are both 2 times a number, one of the numbers is odd where the first summand is
one_of_two : (b : Bool) (x y s t : Surd) → IsOdd x.a → (surd_plus x (signed b y)).a ≡ pos 2 *ℤ s.a → (surd_plus y (signed (not b) x)).a ≡ pos 2 *ℤ t.a → IsOdd s.a ⊎ IsOdd t.a
unfolding signed surd_plus surd_negative
one_of_two true x y s t odd e d = elim (cases_eq (parity s.a) 1) [ inl h ↦ inl h | inr h ↦ inr (omega (arith, ints)) ]
one_of_two false x y s t odd e d = elim (cases_eq (parity s.a) 1) [ inl h ↦ inl h | inr h ↦ inr (omega (arith, ints)) ]

-- so what is left of a rotation over 2 has an odd entry where the table before has
pub odd_quarter : (n : ℕ) (inverse : Bool) (p : ℕ) → p < 4 ^ n → (m quarter : ScaledTable)
    → ((row column : ℕ) → row < 4 ^ n → column < 4 ^ n → surd_times root2_surd (surd_times root2_surd (quarter.table row column)) ≡ rotated n inverse p m.table row column)
    → HasOddEntry n m → HasOddEntry n quarter
odd_quarter n inverse p lp m quarter is odd = elim (cases_Bool (commute n p odd.row)) [
  | inl e ↦
      absurd (odd_is_no_multiple (quarter.table odd.row odd.column) (m.table odd.row odd.column) odd.odd
      (cancel_root2_surd _ _ (is odd.row odd.column odd.row_below odd.column_below ∙ commuting_row n inverse p m.table odd.row odd.column e)))
  | inr e ↦
      let other = product_code-lt n p odd.row lp odd.row_below in
      elim (
      one_of_two (partner_sign n inverse p odd.row) (m.table odd.row odd.column) (m.table (product_code p odd.row) odd.column)
      (quarter.table odd.row odd.column) (quarter.table (product_code p odd.row) odd.column) odd.odd
      (whole_twice _ _ (is odd.row odd.column odd.row_below odd.column_below ∙ mixed_row n inverse p m.table odd.row odd.column e))
      (whole_twice _ _ (is (product_code p odd.row) odd.column other odd.column_below ∙ mixed_partner n inverse p m.table odd.row odd.column e))
      ) [
        | inl h ↦ record { row = odd.row; column = odd.column; row_below = odd.row_below; column_below = odd.column_below; odd = h }
        | inr h ↦ record { row = product_code p odd.row; column = odd.column; row_below = other; column_below = odd.column_below; odd = h }
      ]
]
