-- Lemmas for the crates above: what the product with a gate's matrix is, row by row.
use Rattle.std.proofs.Common.{◌≡◌, ◌≢◌, ℕ, ◌^◌, ◌<◌, ◌≤◌, ◌==◌, true, false, refl, ap, sym, ◌∙◌, arith, inl, inr}
use Rattle.std.specs.Prelude.{if◌then◌else◌}
use Rattle.std.proofs.lemmas.Bool.{cases_Bool, cond-true, cond-false, ne_eqb, eq-eqb}
use Rattle.ring_laws.specs.Cyclotomic.{plus, times, negative, cyclotomics, ω, zero_number, one_number}
use Rattle.ring_laws.specs.Ring.{power}
use Rattle.ring_laws.proofs.Cyclotomic.{cyclotomics_laws, zero-times, one-times}
use Rattle.tc_circuit.specs.Gate.{Table, h_entry, diagonal_entry, cx_entry}
use Rattle.ring_laws.specs.Matrix.{product}
use Rattle.tc_circuit.specs.Bits.{has_bit, flipped, crossed}
use Rattle.ring_laws.proofs.Sums.{sum_single, sum_pair}
use Rattle.tc_circuit.proofs.Flips.{flip_twice, flip_apart, flip_below, flip_keeps}

-- ---- a gate that is diagonal
diagonal-other : (q turns r k : ℕ) → k ≢ r → diagonal_entry q turns r k ≡ zero_number
unfolding diagonal_entry
diagonal-other q turns r k d = cond-false (r == k) _ _ (ne_eqb r k (λ e. d (sym e)))

diagonal-same : (q turns r : ℕ) → diagonal_entry q turns r r ≡ (if has_bit q r then power cyclotomics ω turns else one_number)
unfolding diagonal_entry
diagonal-same q turns r = cond-true (r == r) _ _ (eq-eqb r r refl)

pub diagonal_product : (size q turns : ℕ) (m : Table) (r c : ℕ) → r < size → product cyclotomics size (diagonal_entry q turns) m r c ≡ times (if has_bit q r then power cyclotomics ω turns else one_number) (m r c)
unfolding product
diagonal_product size q turns m r c l =
    sum_single cyclotomics_laws size r (λ k. times (diagonal_entry q turns r k) (m k c)) l (λ k b d. ap (λ x. times x (m k c)) (diagonal-other q turns r k d) ∙ zero-times (m k c))
    ∙ ap (λ x. times x (m r c)) (diagonal-same q turns r)

-- ---- h
h-same : (q r : ℕ) → h_entry q r r ≡ (if has_bit q r then negative one_number else one_number)
unfolding h_entry
h-same q r = cond-true (r == r) _ _ (eq-eqb r r refl)

h-flipped : (q r : ℕ) → q < 3 → h_entry q r (flipped q r) ≡ one_number
unfolding h_entry
h-flipped q r l =
    cond-false (r == flipped q r) _ _ (ne_eqb r (flipped q r) (λ e. flip_apart q r l (sym e)))
    ∙ cond-true (r == flipped q (flipped q r)) _ _ (eq-eqb r _ (sym (flip_twice q r l)))

h-other : (q r k : ℕ) → q < 3 → k ≢ r → k ≢ flipped q r → h_entry q r k ≡ zero_number
unfolding h_entry
h-other q r k l d d' =
    cond-false (r == k) _ _ (ne_eqb r k (λ e. d (sym e)))
    ∙ cond-false (r == flipped q k) _ _ (ne_eqb r (flipped q k) (λ e. d' (sym (flip_twice q k l) ∙ ap (flipped q) (sym e))))

pub h_product : (n q : ℕ) (m : Table) (r c : ℕ) → n ≤ 3 → q < n → r < 2 ^ n → product cyclotomics (2 ^ n) (h_entry q) m r c ≡ plus (times (if has_bit q r then negative one_number else one_number) (m r c)) (m (flipped q r) c)
unfolding product
h_product n q m r c small l b =
    let three : q < 3 = omega arith in
    sum_pair cyclotomics_laws (2 ^ n) r (flipped q r) (λ k. times (h_entry q r k) (m k c)) b (flip_below n q r small l b) (λ e. flip_apart q r three (sym e))
    (λ k b' d d'. ap (λ x. times x (m k c)) (h-other q r k three d d') ∙ zero-times (m k c))
    ∙ cc (h-same q r, h-flipped q r three, one-times (m (flipped q r) c))

-- ---- cx
crossed-true : (control target r : ℕ) → has_bit control r ≡ true → crossed control target r ≡ flipped target r
unfolding crossed
crossed-true control target r e = cond-true (has_bit control r) _ _ e

crossed-false : (control target r : ℕ) → has_bit control r ≡ false → crossed control target r ≡ r
unfolding crossed
crossed-false control target r e = cond-false (has_bit control r) _ _ e

pub crossed_twice : (control target r : ℕ) → control < 3 → target < 3 → control ≢ target → crossed control target (crossed control target r) ≡ r
crossed_twice control target r l l' d =
    elim (cases_Bool (has_bit control r)) [
      | inl e ↦ ap (crossed control target) (crossed-true control target r e)
          ∙ crossed-true control target (flipped target r) (flip_keeps control target r l l' d ∙ e) ∙ flip_twice target r l'
      | inr e ↦ ap (crossed control target) (crossed-false control target r e) ∙ crossed-false control target r e
    ]

pub crossed_below : (n control target r : ℕ) → n ≤ 3 → target < n → r < 2 ^ n → crossed control target r < 2 ^ n
crossed_below n control target r small l b =
    elim (cases_Bool (has_bit control r)) [
      | inl e ↦ let same = crossed-true control target r e in let below = flip_below n target r small l b in rw same below
      | inr e ↦ let same = crossed-false control target r e in rw same b
    ]

cx-same : (control target r : ℕ) → control < 3 → target < 3 → control ≢ target → cx_entry control target r (crossed control target r) ≡ one_number
unfolding cx_entry
cx-same control target r l l' d = cond-true (r == crossed control target (crossed control target r)) _ _ (eq-eqb r _ (sym (crossed_twice control target r l l' d)))

cx-other : (control target r k : ℕ) → control < 3 → target < 3 → control ≢ target → k ≢ crossed control target r → cx_entry control target r k ≡ zero_number
unfolding cx_entry
cx-other control target r k l l' d ne =
    cond-false (r == crossed control target k) _ _ (ne_eqb r _ (λ e. ne (sym (crossed_twice control target k l l' d) ∙ ap (crossed control target) (sym e))))

pub cx_product : (n control target : ℕ) (m : Table) (r c : ℕ) → n ≤ 3 → control < n → target < n → control ≢ target → r < 2 ^ n → product cyclotomics (2 ^ n) (cx_entry control target) m r c ≡ m (crossed control target r) c
unfolding product
cx_product n control target m r c small l l' d b =
    let lc : control < 3 = omega arith in
    let lt : target < 3 = omega arith in
    sum_single cyclotomics_laws (2 ^ n) (crossed control target r) (λ k. times (cx_entry control target r k) (m k c)) (crossed_below n control target r small l' b)
    (λ k b' ne. ap (λ x. times x (m k c)) (cx-other control target r k lc lt d ne) ∙ zero-times (m k c))
    ∙ ap (λ x. times x (m (crossed control target r) c)) (cx-same control target r lc lt d) ∙ one-times (m (crossed control target r) c)
