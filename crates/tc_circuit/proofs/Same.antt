-- Lemmas for the crates above: being the same up to a phase is an equivalence, which gates keep.
use Rattle.std.proofs.Common.{◌≡◌, ℕ, ◌+◌, ◌-◌, ◌^◌, ◌<◌, ◌≤◌, refl, ap, sym, subst, ◌∙◌, arith, List, [], ◌∷◌, ◌++◌, inl, inr}
use Rattle.std.proofs.lemmas.Bool.{cases_lt}
use Rattle.ring_laws.specs.Ring.{power}
use Rattle.ring_laws.specs.Matrix.{sum, product}
use Rattle.ring_laws.specs.Cyclotomic.{Zω, cyclotomics, times, ω, root2, one_number}
use Rattle.ring_laws.proofs.Ring.{power-zero, power-add}
use Rattle.ring_laws.proofs.Sums.{sum_cong, mul-sum}
use Rattle.ring_laws.proofs.Cyclotomic.{cyclotomics_laws, times_assoc, times_left_comm, one-times, ω-eighth, ω-turns, cancel_root2}
use Rattle.tc_circuit.specs.Gate.{gate_table, gate_exponent}
use Rattle.tc_circuit.specs.Model.{ScaledMatrix, after, matrix_of, SameUpTo, Same}
use Rattle.tc_circuit.specs.declared.circuit.Gate.{Gate}

pub same_refl : (size : ℕ) (a : ScaledMatrix) → SameUpTo size 0 a a
same_refl size a = λ r c l l'. ap (times (power cyclotomics root2 a.exponent)) (sym (ap (λ (p : Zω). times p (a.table r c)) (power-zero cyclotomics_laws ω) ∙ one-times (a.table r c)))

pub same_trans : (size i j : ℕ) (a b c : ScaledMatrix) → SameUpTo size i a b → SameUpTo size j b c → SameUpTo size (i + j) a c
same_trans size i j a b c h g = λ row column l l'. one row column (h row column l l') (g row column l l')
  where
    one : (row column : ℕ)
        → times (power cyclotomics root2 b.exponent) (a.table row column) ≡ times (power cyclotomics root2 a.exponent) (times (power cyclotomics ω i) (b.table row column))
        → times (power cyclotomics root2 c.exponent) (b.table row column) ≡ times (power cyclotomics root2 b.exponent) (times (power cyclotomics ω j) (c.table row column))
        → times (power cyclotomics root2 c.exponent) (a.table row column) ≡ times (power cyclotomics root2 a.exponent) (times (power cyclotomics ω (i + j)) (c.table row column))
    one row column p q =
        let ra = power cyclotomics root2 a.exponent in let rb = power cyclotomics root2 b.exponent in let rc = power cyclotomics root2 c.exponent in
        let wi = power cyclotomics ω i in let wj = power cyclotomics ω j in
        let x = a.table row column in let y = b.table row column in let z = c.table row column in
        cancel_root2 b.exponent _ _
        (times_left_comm rb rc x ∙ ap (times rc) p ∙ times_left_comm rc ra (times wi y) ∙ ap (times ra) (times_left_comm rc wi y ∙ ap (times wi) q ∙ times_left_comm wi rb (times wj z)
        ∙ ap (times rb) (sym (times_assoc wi wj z) ∙ ap (λ (p : Zω). times p z) (sym (power-add cyclotomics_laws ω i j))))
        ∙ times_left_comm ra rb (times (power cyclotomics ω (i + j)) z))

pub same_less : (size j : ℕ) (a b : ScaledMatrix) → SameUpTo size (j + 8) a b → SameUpTo size j a b
same_less size j a b h = λ r c l l'. h r c l l' ∙ ap (λ (p : Zω). times (power cyclotomics root2 a.exponent) (times p (b.table r c))) (ω-turns j)

pub same_sym : (size j : ℕ) (a b : ScaledMatrix) → j ≤ 8 → SameUpTo size j a b → SameUpTo size (8 - j) b a
same_sym size j a b l h = λ r c lr lc. one r c (h r c lr lc)
  where
    one : (r c : ℕ) → times (power cyclotomics root2 b.exponent) (a.table r c) ≡ times (power cyclotomics root2 a.exponent) (times (power cyclotomics ω j) (b.table r c))
        → times (power cyclotomics root2 a.exponent) (b.table r c) ≡ times (power cyclotomics root2 b.exponent) (times (power cyclotomics ω (8 - j)) (a.table r c))
    one r c p =
        let ra = power cyclotomics root2 a.exponent in let rb = power cyclotomics root2 b.exponent in
        let w = power cyclotomics ω j in let v = power cyclotomics ω (8 - j) in
        let x = a.table r c in let y = b.table r c in
        let whole_turn : times v w ≡ one_number = sym (power-add cyclotomics_laws ω (8 - j) j) ∙ ap (power cyclotomics ω) (let e : (8 - j) + j ≡ 8 = omega arith in e) ∙ ω-eighth in
        sym (times_left_comm rb v x ∙ ap (times v) p ∙ times_left_comm v ra (times w y) ∙ ap (times ra) (sym (times_assoc v w y) ∙ ap (λ (p : Zω). times p y) whole_turn ∙ one-times y))

pub same_gate : (n j : ℕ) (g : Gate) (a b : ScaledMatrix) → SameUpTo (2 ^ n) j a b
    → SameUpTo (2 ^ n) j (record { table = product cyclotomics (2 ^ n) (gate_table g) a.table; exponent = gate_exponent g + a.exponent }) (record { table = product cyclotomics (2 ^ n) (gate_table g) b.table; exponent = gate_exponent g + b.exponent })
unfolding product
same_gate n j g a b h = λ r c lr lc.
    let re = power cyclotomics root2 (gate_exponent g) in let ra = power cyclotomics root2 a.exponent in let rb = power cyclotomics root2 b.exponent in
    let w = power cyclotomics ω j in let size = 2 ^ n in let gate = gate_table g r in
    ap (λ (p : Zω). times p (sum cyclotomics size (λ k. times (gate k) (a.table k c)))) (power-add cyclotomics_laws root2 (gate_exponent g) b.exponent)
    ∙ times_assoc re rb _
    ∙ ap (times re)
    (mul-sum cyclotomics_laws size rb (λ k. times (gate k) (a.table k c))
    ∙ sum_cong cyclotomics_laws size _ _ (λ k l. times_left_comm rb (gate k) (a.table k c) ∙ ap (times (gate k)) (h k c l lc) ∙ times_left_comm (gate k) ra (times w (b.table k c)) ∙ ap (times ra) (times_left_comm (gate k) w (b.table k c)))
    ∙ sym (ap (times ra) (mul-sum cyclotomics_laws size w (λ k. times (gate k) (b.table k c))) ∙ mul-sum cyclotomics_laws size ra (λ k. times w (times (gate k) (b.table k c)))))
    ∙ sym (ap (λ (p : Zω). times p (times w (sum cyclotomics size (λ k. times (gate k) (b.table k c))))) (power-add cyclotomics_laws root2 (gate_exponent g) a.exponent) ∙ times_assoc re ra _)

pub same_after : (n j : ℕ) (gates : List Gate) (a b : ScaledMatrix) → SameUpTo (2 ^ n) j a b → SameUpTo (2 ^ n) j (after n a gates) (after n b gates)
same_after n j [] a b h = h
same_after n j (g ∷ gates) a b h = same_after n j gates _ _ (same_gate n j g a b h)

-- behind other gates
pub after-append : (n : ℕ) (c d : List Gate) (m : ScaledMatrix) → after n m (c ++ d) ≡ after n (after n m c) d
after-append n [] d m = refl
after-append n (g ∷ c) d m = after-append n c d _

-- ---- circuits
-- a phase below ω¹⁶ is one of the eight
below_eight : (size k : ℕ) (a b : ScaledMatrix) → k < 16 → SameUpTo size k a b → (j : ℕ) × (j < 8) × SameUpTo size j a b
below_eight size k a b l h = elim (cases_lt k 8) [
  | inl small ↦ (k, small, h)
  | inr large ↦ let more : k ≡ (k - 8) + 8 = omega arith in (k - 8, omega arith, same_less size (k - 8) a b (subst (λ (i : ℕ). SameUpTo size i a b) more h))
]

pub Same-refl : (n : ℕ) (c : List Gate) → Same n c c
Same-refl n c = (0, omega arith, same_refl (2 ^ n) (matrix_of n c))

pub Same-sym : (n : ℕ) (c d : List Gate) → Same n c d → Same n d c
Same-sym n c d h = below_eight (2 ^ n) (8 - h.0) (matrix_of n d) (matrix_of n c) (omega arith) (same_sym (2 ^ n) h.0 (matrix_of n c) (matrix_of n d) (omega (arith, h.1)) h.2)

pub Same-trans : (n : ℕ) (c d e : List Gate) → Same n c d → Same n d e → Same n c e
Same-trans n c d e h g =
    below_eight (2 ^ n) (h.0 + g.0) (matrix_of n c) (matrix_of n e) (omega (arith, h.1, g.1))
    (same_trans (2 ^ n) h.0 g.0 (matrix_of n c) (matrix_of n d) (matrix_of n e) h.2 g.2)

-- the same gates behind circuits that are the same
pub Same-append : (n : ℕ) (c d e : List Gate) → Same n c d → Same n (c ++ e) (d ++ e)
Same-append n c d e h = (h.0, h.1, both (after n (matrix_of n c) e) (matrix_of n (c ++ e)) (after n (matrix_of n d) e) (matrix_of n (d ++ e)) (sym (after-append n c e (matrix_of n []))) (sym (after-append n d e (matrix_of n []))) (same_after n h.0 e (matrix_of n c) (matrix_of n d) h.2))
  where
    both : (a a' b b' : ScaledMatrix) → a ≡ a' → b ≡ b' → SameUpTo (2 ^ n) h.0 a b → SameUpTo (2 ^ n) h.0 a' b'
    both a a' b b' p q s = subst (λ (m : ScaledMatrix). SameUpTo (2 ^ n) h.0 m b') p (subst (λ (m : ScaledMatrix). SameUpTo (2 ^ n) h.0 a m) q s)
