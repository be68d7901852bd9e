-- Conjugation keeps products of Paulis.
use Rattle.std.proofs.Common.{◌≡◌, ℕ, ◌+◌, ◌%◌, ◌^◌, ◌<◌, Bool, true, false, not, ◌||◌, T as Holds, eqb, eqb→eq, refl, ap, sym, ◌∙◌, subst, inl, inr, arith, mod-lt, lit<}
use Rattle.std.proofs.lemmas.Bool.{cases_eq}
use Rattle.ring_laws.specs.Ring.{power}
use Rattle.ring_laws.specs.Matrix.{product, identity}
use Rattle.ring_laws.specs.Cyclotomic.{Zω, cyclotomics, integer, plus, times, negative, ω, zero_number, root2}
use Rattle.ring_laws.proofs.Ring.{power-add, mul-zero}
use Rattle.tc_bridge.proofs.Identities.{identity_same, identity_apart}
use Rattle.tc_bridge.proofs.Matrices.{Alike, ◌⊙◌, alike-sym, assoc, multiple, multiple-cong, multiple_comm, multiple-factor, multiple-multiple, multiple-product, product-multiple, combination, combination-multiple, combination-identity, product-left, product-right, product-scalar}
use Rattle.ring_laws.proofs.Cyclotomic.{cyclotomics_laws as laws, times_assoc, times-one}
use Rattle.tc_circuit.specs.Gate.{Table}
use Rattle.pauli_basis.specs.Products.{Signed, product_code, turns, sign_turns}
use Rattle.pauli_basis.proofs.Small.{all, all_at, all_at2}
use Rattle.tc_bridge.specs.Pauli.{imaginary, pauli_matrix, sign}
use Rattle.tc_bridge.proofs.Decide.{same_number}
use Rattle.tc_bridge.proofs.Paulis.{paulis_multiply}
use Rattle.tc_bridge.proofs.Powers.{cancel_multiple, imaginary-mod, imaginary-sign}
use Rattle.tc_bridge.proofs.Unique.{equal_weights}
use Rattle.clifford_rest.proofs.Acts.{Acts}
use Rattle.clifford_rest.proofs.Invertible.{IsInvertible}

-- ---- the powers of i are apart from each other and from 0
abbrev i_to : ℕ → Zω
i_to k = power cyclotomics imaginary k

-- two powers below four
powers_apart : Holds (all 4 (λ m. all 4 (λ k. eqb m k || not (same_number (i_to m) (i_to k)))))
unfolding power integer plus times negative ω imaginary
powers_apart = tt

-- and zero
powers_nonzero : Holds (all 4 (λ m. not (same_number (i_to m) zero_number)))
unfolding power integer plus times negative ω imaginary
powers_nonzero = tt

-- a power is the same as itself
powers_same : Holds (all 4 (λ m. same_number (i_to m) (i_to m)))
unfolding power integer plus times negative ω imaginary
powers_same = tt

-- what is left where the second half fails
either : (a b : Bool) → Holds b → Holds (a || not b) → Holds a
either true b h g = tt
either false true h g = absurd g
either false false h g = absurd h

-- a test and its opposite
never : (b : Bool) → Holds b → Holds (not b) → ⊥
never true h g = g
never false h g = h

-- a remainder by four
below_four : (k : ℕ) → k % 4 < 4
below_four k = mod-lt k {m = 4} (lit< tt)

-- only the turns beyond whole ones count
power_rest : (k : ℕ) → i_to k ≡ i_to (k % 4)
power_rest k = imaginary-mod k (k % 4) (omega (arith, below_four k))

-- equal powers have equal turns
turns_from_powers : (m k : ℕ) → i_to m ≡ i_to k → m % 4 ≡ k % 4
turns_from_powers m k e =
    eqb→eq (m % 4) (k % 4) (either _ (same_number (i_to (m % 4)) (i_to (m % 4))) (all_at 4 (λ m. same_number (i_to m) (i_to m)) powers_same (m % 4) (below_four m))
    (subst (λ (x : Zω). Holds (eqb (m % 4) (k % 4) || not (same_number (i_to (m % 4)) x))) (sym (power_rest k) ∙ sym e ∙ power_rest m)
    (all_at2 4 4 (λ m k. eqb m k || not (same_number (i_to m) (i_to k))) powers_apart (m % 4) (k % 4) (below_four m) (below_four k))))

-- no power is zero
power_nonzero : (m : ℕ) → i_to m ≡ zero_number → ⊥
power_nonzero m e =
    never (same_number (i_to (m % 4)) (i_to (m % 4))) (all_at 4 (λ m. same_number (i_to m) (i_to m)) powers_same (m % 4) (below_four m))
    (subst (λ (x : Zω). Holds (not (same_number (i_to (m % 4)) x))) (sym e ∙ power_rest m) (all_at 4 (λ m. not (same_number (i_to m) zero_number)) powers_nonzero (m % 4) (below_four m)))

-- ---- products
-- the product's image is the images' product, with the turns of both
pub record Multiplies (n p q : ℕ) (s t w : Signed) : Type 0 where
  pub code : w.code ≡ product_code s.code t.code
  pub turns_is : (turns n p q + sign_turns w.is_negative) % 4 ≡ (sign_turns s.is_negative + sign_turns t.is_negative + turns n s.code t.code) % 4

module _ (n : ℕ) (u : Table) (invertible : IsInvertible n u) where
  -- U taken off on the right of a Pauli
  stripped : (x : Zω) (p : ℕ) → Alike cyclotomics (2 ^ n) (product cyclotomics (2 ^ n) (multiple cyclotomics x (product cyclotomics (2 ^ n) (pauli_matrix n p) u)) invertible.inverse)
      (multiple cyclotomics (power cyclotomics root2 invertible.roots) (multiple cyclotomics x (pauli_matrix n p)))
  stripped x p = multiple-product laws x _ invertible.inverse ⊙ multiple-cong laws x (assoc laws (pauli_matrix n p) u invertible.inverse ⊙ product-left laws (pauli_matrix n p) invertible.is ⊙ product-scalar laws _ (pauli_matrix n p)) ⊙ multiple_comm laws x _ _

  -- multiples of two Paulis times U are equal where those of the Paulis are
  bare : (x y : Zω) (p q : ℕ) → Alike cyclotomics (2 ^ n) (multiple cyclotomics x (product cyclotomics (2 ^ n) (pauli_matrix n p) u)) (multiple cyclotomics y (product cyclotomics (2 ^ n) (pauli_matrix n q) u))
      → Alike cyclotomics (2 ^ n) (multiple cyclotomics x (pauli_matrix n p)) (multiple cyclotomics y (pauli_matrix n q))
  bare x y p q h = cancel_multiple invertible.roots _ _ (alike-sym (stripped x p) ⊙ product-right laws h invertible.inverse ⊙ stripped y q)

  -- one Pauli as a sum over all
  single : (x : Zω) (p : ℕ) → p < 4 ^ n → Alike cyclotomics (2 ^ n) (combination cyclotomics (4 ^ n) (λ k. times x (identity cyclotomics k p)) (pauli_matrix n)) (multiple cyclotomics x (pauli_matrix n p))
  single x p l = combination-multiple laws (4 ^ n) x _ _ ⊙ multiple-cong laws x (combination-identity laws (4 ^ n) p _ l)

  -- multiples of two Paulis that are equal
  weights : (x y : Zω) (p q : ℕ) → p < 4 ^ n → q < 4 ^ n → Alike cyclotomics (2 ^ n) (multiple cyclotomics x (pauli_matrix n p)) (multiple cyclotomics y (pauli_matrix n q))
      → x ≡ times y (identity cyclotomics p q)
  weights x y p q lp lq h =
      sym (times-one x) ∙ ap (times x) (sym (identity_same laws p p refl))
      ∙ equal_weights n (λ k. times x (identity cyclotomics k p)) (λ k. times y (identity cyclotomics k q)) (single x p lp ⊙ h ⊙ alike-sym (single y q lq)) p lp

  -- so the Paulis and the powers of i are equal
  same_powers : (m k p q : ℕ) → p < 4 ^ n → q < 4 ^ n → Alike cyclotomics (2 ^ n) (multiple cyclotomics (i_to m) (pauli_matrix n p)) (multiple cyclotomics (i_to k) (pauli_matrix n q))
      → (p ≡ q) × (m % 4 ≡ k % 4)
  same_powers m k p q lp lq h = elim (cases_eq p q) [
    | inl same ↦ (same, turns_from_powers m k (weights (i_to m) (i_to k) p q lp lq h ∙ ap (times (i_to k)) (identity_same laws p q same) ∙ times-one (i_to k)))
    | inr apart ↦ absurd (power_nonzero m (weights (i_to m) (i_to k) p q lp lq h ∙ ap (times (i_to k)) (identity_apart laws p q apart) ∙ mul-zero laws (i_to k)))
  ]

  module _ (p q : ℕ) (s t w : Signed) (hp : Acts n u p s) (hq : Acts n u q t) (hw : Acts n u (product_code p q) w) (lx : product_code s.code t.code < 4 ^ n) where
    -- U·P·Q by the images of P and Q
    twice : Alike cyclotomics (2 ^ n) (product cyclotomics (2 ^ n) u (product cyclotomics (2 ^ n) (pauli_matrix n p) (pauli_matrix n q)))
        (multiple cyclotomics (i_to (sign_turns s.is_negative + sign_turns t.is_negative + turns n s.code t.code)) (product cyclotomics (2 ^ n) (pauli_matrix n (product_code s.code t.code)) u))
    twice =
        alike-sym (assoc laws u (pauli_matrix n p) (pauli_matrix n q)) ⊙ product-right laws hp.is (pauli_matrix n q) ⊙ multiple-product laws _ _ _
        ⊙ multiple-cong laws _ (assoc laws (pauli_matrix n s.code) u (pauli_matrix n q) ⊙ product-left laws (pauli_matrix n s.code) hq.is ⊙ product-multiple laws _ _ _
        ⊙ multiple-cong laws _ (alike-sym (assoc laws (pauli_matrix n s.code) (pauli_matrix n t.code) u) ⊙ product-right laws (paulis_multiply n s.code t.code) u ⊙ multiple-product laws _ _ u) ⊙ multiple-multiple laws _ _ _)
        ⊙ multiple-multiple laws _ _ _
        ⊙ multiple-factor laws (gather s.is_negative t.is_negative) _
      where
        gather : (a b : Bool) → times (sign a) (times (sign b) (i_to (turns n s.code t.code))) ≡ i_to (sign_turns a + sign_turns b + turns n s.code t.code)
        gather a b =
            sym (times_assoc (sign a) (sign b) (i_to (turns n s.code t.code)))
            ∙ (λ i. times (times (sym (imaginary-sign a) i) (sym (imaginary-sign b) i)) (i_to (turns n s.code t.code)))
            ∙ ap (λ x. times x (i_to (turns n s.code t.code))) (sym (power-add laws imaginary (sign_turns a) (sign_turns b)))
            ∙ sym (power-add laws imaginary (sign_turns a + sign_turns b) (turns n s.code t.code))

    -- and by that of the product
    once : Alike cyclotomics (2 ^ n) (product cyclotomics (2 ^ n) u (product cyclotomics (2 ^ n) (pauli_matrix n p) (pauli_matrix n q)))
        (multiple cyclotomics (i_to (turns n p q + sign_turns w.is_negative)) (product cyclotomics (2 ^ n) (pauli_matrix n w.code) u))
    once =
        product-left laws u (paulis_multiply n p q) ⊙ product-multiple laws _ u _ ⊙ multiple-cong laws _ hw.is ⊙ multiple-multiple laws _ _ _
        ⊙ multiple-factor laws (ap (times (i_to (turns n p q))) (sym (imaginary-sign w.is_negative)) ∙ sym (power-add laws imaginary (turns n p q) (sign_turns w.is_negative))) _

    -- the two ways to write U·P·Q agree
    pub multiplies : Multiplies n p q s t w
    multiplies =
        let same = same_powers _ _ w.code (product_code s.code t.code) hw.below lx (bare _ _ w.code (product_code s.code t.code) (alike-sym once ⊙ twice)) in
        record { code = same.0; turns_is = same.1 }
