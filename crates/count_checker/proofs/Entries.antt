-- Entries brought to one power of √2.
use Rattle.std.proofs.Common.{◌≡◌, ℕ, suc, ◌+◌, ◌-◌, ◌*◌, ◌^◌, ◌<◌, ◌≤◌, ◌↔◌, ap, sym, subst, ◌∙◌, arith, add-one, mul_comm, List, [], ◌∷◌, length, slice_index_or, pos, ℤ}
use Rattle.std.proofs.Math.Nat.{pow-suc, pow-le-pow_right}
use Rattle.ring_laws.specs.Ring.{power}
use Rattle.ring_laws.specs.Cyclotomic.{Zω, number, cyclotomics, times, root2}
use Rattle.ring_laws.proofs.Ring.{power-add, power-zero, power-suc}
use Rattle.ring_laws.proofs.Cyclotomic.{cyclotomics_laws, times_assoc, one-times, cancel_root2}
use Rattle.tc_ring.specs.Bounds.{IsWithin}
use Rattle.tc_ring.specs.Omega.{number_of}
use Rattle.tc_ring.specs.declared.omega.Omega.{Omega}
use Rattle.tc_ring.proofs.Bounds.{within_more}

-- a bound that is doubled once more
pub within_twice : (factors i : ℕ) (x : Zω) → i < factors → factors ≤ 120 → IsWithin (2 * 2 ^ (120 - factors + i)) x → IsWithin (2 ^ (120 - factors + (i + 1))) x
within_twice factors i x l h w =
    let e : 120 - factors + (i + 1) ≡ suc (120 - factors + i) = omega arith in
    subst (λ (b : ℕ). IsWithin b x) (mul_comm 2 (2 ^ (120 - factors + i)) ∙ sym (pow-suc 2 (120 - factors + i)) ∙ ap (λ (k : ℕ). 2 ^ k) (sym e)) w

-- up to the last the number is small enough to be doubled
pub within_last : (factors i : ℕ) (x : Zω) → i < factors → factors ≤ 120 → IsWithin (2 ^ (120 - factors + i)) x → IsWithin (2 ^ 125) x
within_last factors i x l h w =
    let two : 0 < 2 = omega arith in
    within_more _ _ x (pow-le-pow_right two (let le : 120 - factors + i ≤ 125 = omega arith in le)) w

-- a number with a small bound is small enough to be brought up
pub within_start : (k j : ℕ) (x : Zω) → k ≤ j → j ≤ 120 → IsWithin (2 ^ k) x → IsWithin (2 ^ (120 - (j - k))) x
within_start k j x l h w =
    let two : 0 < 2 = omega arith in
    within_more _ _ x (pow-le-pow_right two (let le : k ≤ 120 - (j - k) = omega arith in le)) w

-- one factor more
pub one_factor : (i : ℕ) (x : Zω) → times root2 (times (power cyclotomics root2 i) x) ≡ times (power cyclotomics root2 (i + 1)) x
one_factor i x = sym (times_assoc root2 (power cyclotomics root2 i) x) ∙ ap (λ (p : Zω). times p x) (sym (power-suc cyclotomics_laws root2 i) ∙ ap (power cyclotomics root2) (sym (add-one i)))

-- no factor
pub no_factor : (x : Zω) → x ≡ times (power cyclotomics root2 0) x
no_factor x = sym (ap (λ (p : Zω). times p x) (power-zero cyclotomics_laws root2) ∙ one-times x)

-- powers of √2 on both sides, of which the first has no more on the right
pub raise_left : (k j : ℕ) (x y : Zω) → k ≤ j → (times (power cyclotomics root2 (j - k)) x ≡ y) ↔ (times (power cyclotomics root2 j) x ≡ times (power cyclotomics root2 k) y)
raise_left k j x y l =
    let sum : j ≡ k + (j - k) = omega arith in
    let split : times (power cyclotomics root2 j) x ≡ times (power cyclotomics root2 k) (times (power cyclotomics root2 (j - k)) x)
    = ap (λ (p : Zω). times p x) (ap (power cyclotomics root2) sum ∙ power-add cyclotomics_laws root2 k (j - k)) ∙ times_assoc (power cyclotomics root2 k) (power cyclotomics root2 (j - k)) x in (
      λ e. split ∙ ap (times (power cyclotomics root2 k)) e,
      λ e. cancel_root2 k _ _ (sym split ∙ e),
    )

pub raise_right : (k j : ℕ) (x y : Zω) → k ≤ j → (x ≡ times (power cyclotomics root2 (j - k)) y) ↔ (times (power cyclotomics root2 k) x ≡ times (power cyclotomics root2 j) y)
raise_right k j x y l = let h = raise_left k j y x l in (λ e. sym (h.0 (sym e)), λ e. sym (h.1 (sym e)))

-- an entry of a matrix is small enough to be turned
pub within_grid : (k : ℕ) (x : Zω) → k ≤ 120 → IsWithin (2 ^ k) x → IsWithin (2 ^ 125) x
within_grid k x l h = let two : 0 < 2 = omega arith in within_more _ _ x (pow-le-pow_right two (let le : k ≤ 125 = omega arith in le)) h

-- the bound before the first factor
pub within_zero : (factors : ℕ) (x : Zω) → IsWithin (2 ^ (120 - factors)) x → IsWithin (2 ^ (120 - factors + 0)) x
within_zero factors x h = let e : 120 - factors + 0 ≡ 120 - factors = omega arith in subst (λ (k : ℕ). IsWithin (2 ^ k) x) (sym e) h

-- numbers by their coordinates
pub coordinates_same : (a b : Omega) → length a.x ≡ 4 → length b.x ≡ 4 → number_of a ≡ number_of b → a.x ≡ b.x
coordinates_same a b l m e = go a.x b.x l m e
  where
    go : (xs ys : List ℤ) → length xs ≡ 4 → length ys ≡ 4
        → number (slice_index_or xs 0 (pos 0)) (slice_index_or xs 1 (pos 0)) (slice_index_or xs 2 (pos 0)) (slice_index_or xs 3 (pos 0))
        ≡ number (slice_index_or ys 0 (pos 0)) (slice_index_or ys 1 (pos 0)) (slice_index_or ys 2 (pos 0)) (slice_index_or ys 3 (pos 0))
        → xs ≡ ys
    go (p0 ∷ p1 ∷ p2 ∷ p3 ∷ []) (q0 ∷ q1 ∷ q2 ∷ q3 ∷ []) l m e = cc (ap (λ (x : Zω). x.x0) e, ap (λ (x : Zω). x.x1) e, ap (λ (x : Zω). x.x2) e, ap (λ (x : Zω). x.x3) e)
    go (p0 ∷ p1 ∷ p2 ∷ p3 ∷ []) [] l m e = absurd (omega arith)
    go (p0 ∷ p1 ∷ p2 ∷ p3 ∷ []) (q0 ∷ []) l m e = absurd (omega arith)
    go (p0 ∷ p1 ∷ p2 ∷ p3 ∷ []) (q0 ∷ q1 ∷ []) l m e = absurd (omega arith)
    go (p0 ∷ p1 ∷ p2 ∷ p3 ∷ []) (q0 ∷ q1 ∷ q2 ∷ []) l m e = absurd (omega arith)
    go (p0 ∷ p1 ∷ p2 ∷ p3 ∷ []) (q0 ∷ q1 ∷ q2 ∷ q3 ∷ q4 ∷ qs) l m e = absurd (omega arith)
    go [] ys l m e = absurd (omega arith)
    go (p0 ∷ []) ys l m e = absurd (omega arith)
    go (p0 ∷ p1 ∷ []) ys l m e = absurd (omega arith)
    go (p0 ∷ p1 ∷ p2 ∷ []) ys l m e = absurd (omega arith)
    go (p0 ∷ p1 ∷ p2 ∷ p3 ∷ p4 ∷ ps) ys l m e = absurd (omega arith)

-- the bound of an entry, by another name of the exponent
pub within_at : (k j : ℕ) (x : Zω) → k ≡ j → IsWithin (2 ^ j) x → IsWithin (2 ^ k) x
within_at k j x e h = subst (λ (i : ℕ). IsWithin (2 ^ i) x) (sym e) h

-- both sides by other names
same_sides : (T : Type 0) (k k' j j' : ℕ) (x x' y y' : Zω) → k ≡ k' → j ≡ j' → x ≡ x' → y ≡ y'
    → T ↔ (times (power cyclotomics root2 j) x ≡ times (power cyclotomics root2 k) y) → T ↔ (times (power cyclotomics root2 j') x' ≡ times (power cyclotomics root2 k') y')
same_sides T k k' j j' x x' y y' ek ej ex ey h =
    let left : times (power cyclotomics root2 j) x ≡ times (power cyclotomics root2 j') x' = λ i. times (power cyclotomics root2 (ej i)) (ex i) in
    let right : times (power cyclotomics root2 k) y ≡ times (power cyclotomics root2 k') y' = λ i. times (power cyclotomics root2 (ek i)) (ey i) in
    (λ t. sym left ∙ h.0 t ∙ right, λ e. h.1 (left ∙ e ∙ sym right))

-- a test of equal numbers, the first of which was brought up, tests both brought to one power
pub tested_left : (T : Type 0) (k k' j j' : ℕ) (x x' y y' p : Zω) → k ≡ k' → j ≡ j' → x ≡ x' → y ≡ y' → k ≤ j → p ≡ times (power cyclotomics root2 (j - k)) x
    → T ↔ (p ≡ y) → T ↔ (times (power cyclotomics root2 j') x' ≡ times (power cyclotomics root2 k') y')
tested_left T k k' j j' x x' y y' p ek ej ex ey l e h =
    let both = raise_left k j x y l in
    same_sides T k k' j j' x x' y y' ek ej ex ey (λ t. both.0 (sym e ∙ h.0 t), λ g. h.1 (e ∙ both.1 g))

-- the same where the second was brought up
pub tested_right : (T : Type 0) (k k' j j' : ℕ) (x x' y y' p : Zω) → k ≡ k' → j ≡ j' → x ≡ x' → y ≡ y' → j ≤ k → p ≡ times (power cyclotomics root2 (k - j)) y
    → T ↔ (x ≡ p) → T ↔ (times (power cyclotomics root2 j') x' ≡ times (power cyclotomics root2 k') y')
tested_right T k k' j j' x x' y y' p ek ej ex ey l e h =
    let both = raise_right j k x y l in
    same_sides T k k' j j' x x' y y' ek ej ex ey (λ t. both.0 (h.0 t ∙ e), λ g. h.1 (both.1 g ∙ sym e))
