-- Lemmas for the crates above: the number of digits with signs has the sign of the first digit other than 0, and two such numbers compare as their digits.
use Rattle.std.proofs.Common.{◌≡◌, ℕ, zero, suc, ◌+◌, ◌*◌, ◌^◌, ◌<◌, ◌≤◌, Bool, true, false, List, [], ◌∷◌, length, map, refl, ap, sym, ◌∙◌, subst, arith, Ordering, Less, Equal, Greater}
use Rattle.std.specs.Prelude.{ℤ, pos, negsuc, neg_ℤ, ◌+ℤ◌, ◌*ℤ◌, ◌<ℤ◌, ◌≤ℤ◌, nat_abs, int_lt, cond}
use Rattle.std.specs.Ordering.{int_cmp, ordering_then, MatchOrdering}
use Rattle.std.specs.Cmp.Lexicographic.{slice_cmp}
use Rattle.std.specs.Cmp.{int_cmp_is, int_ranks}
use Rattle.std.proofs.Math.Nat.{pow-zero, pow-succ', mul-le-mul_right}
use Rattle.std.proofs.lemmas.Int.{ints}
use Rattle.std.proofs.lemmas.List.{length-map}
use Rattle.ring_laws.proofs.Integers.{integers_laws}
use Rattle.ring_laws.proofs.Reader.{ring, reads}
use Rattle.coset_label.specs.Labels.{leads_negative}
use Rattle.label_laws.specs.Digits.{signed_number, AreSignedDigits}

-- a product with a natural number, by its sign
pos_product : (k p : ℕ) → pos k *ℤ pos p ≡ pos (k * p)
pos_product k p = refl

negsuc_product : (k p : ℕ) → negsuc k *ℤ pos p ≡ neg_ℤ (pos (suc k * p))
negsuc_product k p = refl

mul-le-mul_right-le : (k j p : ℕ) → p ≤ suc k * p + j * p
mul-le-mul_right-le k j p = let one : 1 * p ≤ suc k * p = mul-le-mul_right p (omega arith) in omega arith

-- the bound of a step: P is the power of the base behind the digit
bound_step : (d : ℤ) (base p : ℕ) (x : ℤ) → 2 * nat_abs d < base → (pos 2 *ℤ x) <ℤ pos p → neg_ℤ (pos p) <ℤ (pos 2 *ℤ x)
    → ((pos 2 *ℤ (d *ℤ pos p +ℤ x)) <ℤ pos (base * p)) × (neg_ℤ (pos (base * p)) <ℤ (pos 2 *ℤ (d *ℤ pos p +ℤ x)))
bound_step (pos k) base p x h up low =
    let product : (2 * k + 1) * p ≤ base * p = mul-le-mul_right p (omega arith) in
    let split : (2 * k + 1) * p ≡ 2 * (k * p) + p = omega arith in
    let e = pos_product k p in
    (omega (arith, ints), omega (arith, ints))
bound_step (negsuc k) base p x h up low =
    let product : (2 * suc k + 1) * p ≤ base * p = mul-le-mul_right p (omega arith) in
    let split : (2 * suc k + 1) * p ≡ 2 * (suc k * p) + p = omega arith in
    let e : negsuc k *ℤ pos p ≡ neg_ℤ (pos (suc k * p)) = negsuc_product k p in
    (omega (arith, ints), omega (arith, ints))

-- twice the number is less than the next power of the base
pub signed_between : (base : ℕ) (digits : List ℤ) → AreSignedDigits base digits
    → ((pos 2 *ℤ signed_number base digits) <ℤ pos (base ^ length digits)) × (neg_ℤ (pos (base ^ length digits)) <ℤ (pos 2 *ℤ signed_number base digits))
signed_between base [] all = let e = pow-zero base in (omega (arith, ints), omega (arith, ints))
signed_between base (d ∷ digits) all =
    let rest = signed_between base digits all.1 in
    let step = bound_step d base (base ^ length digits) (signed_number base digits) all.0 rest.0 rest.1 in
    let e = pow-succ' base (length digits) in
    (omega (arith, ints, step.0), omega (arith, ints, step.1))

-- a digit that is less makes a number that is less
less_step : (d e : ℤ) (p : ℕ) (x y : ℤ) → d <ℤ e → (pos 2 *ℤ x) <ℤ pos p → neg_ℤ (pos p) <ℤ (pos 2 *ℤ y) → (d *ℤ pos p +ℤ x) <ℤ (e *ℤ pos p +ℤ y)
less_step (pos k) (pos j) p x y l up low =
    let more : (k + 1) * p ≤ j * p = mul-le-mul_right p (omega (arith, ints)) in
    let split : (k + 1) * p ≡ k * p + p = omega arith in
    omega (arith, ints)
less_step (pos k) (negsuc j) p x y l up low = absurd (omega (arith, ints))
less_step (negsuc k) (pos j) p x y l up low =
    let some : p ≤ suc k * p + j * p = mul-le-mul_right-le k j p in
    let e : negsuc k *ℤ pos p ≡ neg_ℤ (pos (suc k * p)) = negsuc_product k p in
    omega (arith, ints)
less_step (negsuc k) (negsuc j) p x y l up low =
    let more : (suc j + 1) * p ≤ suc k * p = mul-le-mul_right p (omega (arith, ints)) in
    let split : (suc j + 1) * p ≡ suc j * p + p = omega arith in
    let e : negsuc k *ℤ pos p ≡ neg_ℤ (pos (suc k * p)) = negsuc_product k p in
    let f : negsuc j *ℤ pos p ≡ neg_ℤ (pos (suc j * p)) = negsuc_product j p in
    omega (arith, ints)

-- two whole numbers in order
data Compared (x y : ℤ) : Type 0 where
  below : x <ℤ y → Compared x y
  equal : x ≡ y → Compared x y
  above : y <ℤ x → Compared x y

cases_compared : (x y : ℤ) → Compared x y
cases_compared x y = by (int_cmp x y) (int_ranks x y)
  where
    by : (o : Ordering) → MatchOrdering o (x <ℤ y) (x ≡ y) (y <ℤ x) → Compared x y
    by Less h = below h
    by Equal h = equal h
    by Greater h = above h

-- one front for both
same_front : (f x y : ℤ) → int_cmp x y ≡ int_cmp (f +ℤ x) (f +ℤ y)
same_front f x y = elim (cases_compared x y) [
  | below l ↦ sym (int_cmp_is x y Less l) ∙ int_cmp_is (f +ℤ x) (f +ℤ y) Less (omega (arith, ints))
  | equal e ↦ sym (int_cmp_is x y Equal e) ∙ int_cmp_is (f +ℤ x) (f +ℤ y) Equal (ap (λ z. f +ℤ z) e)
  | above l ↦ sym (int_cmp_is x y Greater l) ∙ int_cmp_is (f +ℤ x) (f +ℤ y) Greater (omega (arith, ints))
]

-- such numbers compare as their digits
pub numbers_compare : (base : ℕ) (xs ys : List ℤ) → AreSignedDigits base xs → AreSignedDigits base ys → length xs ≡ length ys
    → slice_cmp int_cmp xs ys ≡ int_cmp (signed_number base xs) (signed_number base ys)
numbers_compare base [] [] h g e = int_cmp_is (pos 0) (pos 0) Equal refl
numbers_compare base [] (y ∷ ys) h g e = absurd (omega arith)
numbers_compare base (x ∷ xs) [] h g e = absurd (omega arith)
numbers_compare base (x ∷ xs) (y ∷ ys) h g e = elim (cases_compared x y) [
  | below l ↦
      ap (λ o. ordering_then o (slice_cmp int_cmp xs ys)) (sym (int_cmp_is x y Less l))
      ∙ int_cmp_is _ _ Less (less_step x y p X Y l (signed_between base xs h.1).0 other.1) ∙ ap (int_cmp (x *ℤ pos p +ℤ X)) (behind y)
  | equal d ↦
      ap (λ o. ordering_then o (slice_cmp int_cmp xs ys)) (sym (int_cmp_is x y Equal d))
      ∙ numbers_compare base xs ys h.1 g.1 long
      ∙ same_front (x *ℤ pos p) X Y
      ∙ ap (λ z. int_cmp (x *ℤ pos p +ℤ X) (z *ℤ pos p +ℤ Y)) d ∙ ap (int_cmp (x *ℤ pos p +ℤ X)) (behind y)
  | above l ↦
      ap (λ o. ordering_then o (slice_cmp int_cmp xs ys)) (sym (int_cmp_is x y Greater l))
      ∙ int_cmp_is _ _ Greater (less_step y x p Y X l other.0 (signed_between base xs h.1).1) ∙ ap (int_cmp (x *ℤ pos p +ℤ X)) (behind y)
]
  where
    long : length xs ≡ length ys
    long = omega arith

    p : ℕ
    p = base ^ length xs

    X : ℤ
    X = signed_number base xs

    Y : ℤ
    Y = signed_number base ys

    other : ((pos 2 *ℤ Y) <ℤ pos p) × (neg_ℤ (pos p) <ℤ (pos 2 *ℤ Y))
    other = subst (λ k. ((pos 2 *ℤ Y) <ℤ pos (base ^ k)) × (neg_ℤ (pos (base ^ k)) <ℤ (pos 2 *ℤ Y))) (sym long) (signed_between base ys g.1)

    behind : (y : ℤ) → y *ℤ pos p +ℤ Y ≡ y *ℤ pos (base ^ length ys) +ℤ Y
    behind y = ap (λ k. y *ℤ pos (base ^ k) +ℤ Y) long

-- the sign of a number
int_cmp_less : (z : ℤ) → int_lt z (pos 0) ≡ true → z <ℤ pos 0
int_cmp_less z e = subst (λ o. MatchOrdering o (z <ℤ pos 0) (z ≡ pos 0) (pos 0 <ℤ z)) (ap (λ b. cond b Less (cond (int_lt (pos 0) z) Greater Equal)) e) (int_ranks z (pos 0))

sign_false : (z : ℤ) → pos 0 ≤ℤ z → false ≡ int_lt z (pos 0)
sign_false z l = by (int_lt z (pos 0)) refl
  where
    by : (b : Bool) → int_lt z (pos 0) ≡ b → false ≡ b
    by true e = absurd (omega (arith, ints, int_cmp_less z e))
    by false e = refl

sign_true : (z : ℤ) → z <ℤ pos 0 → true ≡ int_lt z (pos 0)
sign_true z l = by (int_lt z (pos 0)) (int_cmp_is z (pos 0) Less l)
  where
    by : (b : Bool) → Less ≡ cond b Less (cond (int_lt (pos 0) z) Greater Equal) → true ≡ b
    by true e = refl
    by false e = other (int_lt (pos 0) z) e
      where
        other : (c : Bool) → Less ≡ cond c Greater Equal → true ≡ false
        other true e = absurd cc
        other false e = absurd cc

no_front : (x p : ℤ) → x ≡ pos 0 *ℤ p +ℤ x
no_front x p = ring integers_laws (x ∷ p ∷ []) (search reads depth 30 parts 0 fits 10000) tt

positive : (k p : ℕ) (x : ℤ) → neg_ℤ (pos p) <ℤ (pos 2 *ℤ x) → pos 0 ≤ℤ (pos (suc k) *ℤ pos p +ℤ x)
positive k p x l =
    let e = pos_product (suc k) p in
    let one : 1 * p ≤ suc k * p = mul-le-mul_right p (omega arith) in
    omega (arith, ints)

negative : (k p : ℕ) (x : ℤ) → (pos 2 *ℤ x) <ℤ pos p → (negsuc k *ℤ pos p +ℤ x) <ℤ pos 0
negative k p x l =
    let e = negsuc_product k p in
    let one : 1 * p ≤ suc k * p = mul-le-mul_right p (omega arith) in
    omega (arith, ints)

-- the sign is that of the first digit other than 0
pub number_sign : (base : ℕ) (digits : List ℤ) → AreSignedDigits base digits → leads_negative digits ≡ int_lt (signed_number base digits) (pos 0)
number_sign base [] h = refl
number_sign base (pos zero ∷ digits) h = number_sign base digits h.1 ∙ ap (λ z. int_lt z (pos 0)) (no_front (signed_number base digits) (pos (base ^ length digits)))
number_sign base (pos (suc k) ∷ digits) h = sign_false _ (positive k (base ^ length digits) (signed_number base digits) (signed_between base digits h.1).1)
number_sign base (negsuc k ∷ digits) h = sign_true _ (negative k (base ^ length digits) (signed_number base digits) (signed_between base digits h.1).0)

negative_formula : (d p x : ℤ) → neg_ℤ d *ℤ p +ℤ neg_ℤ x ≡ neg_ℤ (d *ℤ p +ℤ x)
negative_formula d p x = ring integers_laws (d ∷ p ∷ x ∷ []) (search reads depth 30 parts 0 fits 10000) tt

-- the negatives of the digits make the negative number
pub number-negative : (base : ℕ) (digits : List ℤ) → signed_number base (map neg_ℤ digits) ≡ neg_ℤ (signed_number base digits)
number-negative base [] = refl
number-negative base (d ∷ digits) =
    (λ i. neg_ℤ d *ℤ pos (base ^ length-map digits neg_ℤ i) +ℤ number-negative base digits i)
    ∙ negative_formula d (pos (base ^ length digits)) (signed_number base digits)
