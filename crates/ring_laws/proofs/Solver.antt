-- Polynomial identities over a commutative ring, decided by computing normal forms.
use mathlib.Core.Path.{◌≡◌, refl, sym, ap, ◌∙◌, subst}
use mathlib.Core.Bool.{Bool, true, false}
use Prim.Native.Nat.{ℕ, zero, suc, compare, Ordering}
use lib.Dec.{T, eqb→eq, compare_is_eq}
use lib.IntN.{ℤ, pos, negsuc, ◌+ℤ◌, ◌*ℤ◌}
use Rattle.ring_laws.proofs.Ring as ring
use Rattle.ring_laws.specs.Ring.{RingOps, RingLaws}

-- ---- what is decided: expressions over numbered atoms
pub data Expr : Type 0 where
  var : ℕ → Expr
  con : ℤ → Expr
  add mul : Expr → Expr → Expr
  neg : Expr → Expr

-- ---- normal forms: a list of terms, each a coefficient that is not 0 and the variables' numbers in order
pub data Mono : Type 0 where
  unit : Mono
  times : ℕ → Mono → Mono

pub data Poly : Type 0 where
  nil : Poly
  term : ℤ → Mono → Poly → Poly

-- the order by exponents, the empty monomial last
abbrev pub cmp : Mono → Mono → Ordering
cmp unit unit = Ordering.eq
cmp unit (times w n) = Ordering.gt
cmp (times v m) unit = Ordering.lt
cmp (times v m) (times w n) = elim (compare v w) [ Ordering.lt ↦ Ordering.lt | Ordering.eq ↦ cmp m n | Ordering.gt ↦ Ordering.gt ]

abbrev pub m_insert : ℕ → Mono → Mono
m_insert v unit = times v unit
m_insert v (times w m) = elim (compare v w) [ Ordering.lt ↦ times v (times w m) | Ordering.eq ↦ times v (times w m) | Ordering.gt ↦ times w (m_insert v m) ]

abbrev pub m_mul : Mono → Mono → Mono
m_mul unit n = n
m_mul (times v m) n = m_insert v (m_mul m n)

abbrev pub cons : ℤ → Mono → Poly → Poly
cons (pos zero) m p = p
cons (pos (suc k)) m p = term (pos (suc k)) m p
cons (negsuc k) m p = term (negsuc k) m p

abbrev pub p_insert : ℤ → Mono → Poly → Poly
p_insert c m nil = cons c m nil
p_insert c m (term d n p) = elim (cmp m n) [ Ordering.lt ↦ cons c m (term d n p) | Ordering.eq ↦ cons (c +ℤ d) n p | Ordering.gt ↦ term d n (p_insert c m p) ]

abbrev pub p_add : Poly → Poly → Poly
p_add nil q = q
p_add (term c m p) q = p_insert c m (p_add p q)

abbrev pub p_scale : ℤ → Mono → Poly → Poly
p_scale c m nil = nil
p_scale c m (term d n p) = cons (c *ℤ d) (m_mul m n) (p_scale c m p)

abbrev pub p_mul : Poly → Poly → Poly
p_mul nil q = nil
p_mul (term c m p) q = p_add (p_scale c m q) (p_mul p q)

abbrev pub normal : Expr → Poly
normal (var v) = term (pos 1) (times v unit) nil
normal (con c) = cons c unit nil
normal (add d e) = p_add (normal d) (normal e)
normal (mul d e) = p_mul (normal d) (normal e)
normal (neg e) = p_scale (negsuc 0) unit (normal e)

abbrev pub is_nil : Poly → Bool
is_nil nil = true
is_nil (term c m p) = false

-- the difference of the two has the normal form 0
abbrev pub same : Expr → Expr → Bool
same d e = is_nil (normal (add d (neg e)))

is_eq : Ordering → Bool
is_eq Ordering.lt = false
is_eq Ordering.eq = true
is_eq Ordering.gt = false

T_of : (o : Ordering) → o ≡ Ordering.eq → T (is_eq o)
unfolding is_eq
T_of o e = subst (λ (x : Ordering). T (is_eq x)) (sym e) tt

compare_eq : (v w : ℕ) → compare v w ≡ Ordering.eq → v ≡ w
compare_eq v w e = eqb→eq v w (subst (λ (o : Ordering). T (compare_is_eq o)) (sym e) tt)

cmp_eq : (m n : Mono) → T (is_eq (cmp m n)) → m ≡ n
unfolding is_eq
cmp_eq unit unit t = refl
cmp_eq unit (times w n) t = absurd t
cmp_eq (times v m) unit t = absurd t
cmp_eq (times v m) (times w n) t = by (compare v w) refl t (cmp_eq m n)
  where
    by : (o : Ordering) → compare v w ≡ o
        → T (is_eq (elim o as (λ _. Ordering) [ Ordering.lt ↦ Ordering.lt | Ordering.eq ↦ cmp m n | Ordering.gt ↦ Ordering.gt ]))
        → (T (is_eq (cmp m n)) → m ≡ n) → times v m ≡ times w n
    by Ordering.lt e t f = absurd t
    by Ordering.eq e t f = λ i. times (compare_eq v w e i) (f t i)
    by Ordering.gt e t f = absurd t

-- ---- what they mean
module _ (O : RingOps) (ρ : ℕ → O.Carrier) where
  abbrev pub eval : Expr → O.Carrier
  eval (var v) = ρ v
  eval (con c) = O.num c
  eval (add d e) = O.add (eval d) (eval e)
  eval (mul d e) = O.mul (eval d) (eval e)
  eval (neg e) = O.neg (eval e)

  m_eval : Mono → O.Carrier
  m_eval unit = O.num (pos 1)
  m_eval (times v m) = O.mul (ρ v) (m_eval m)

  p_eval : Poly → O.Carrier
  p_eval nil = O.num (pos 0)
  p_eval (term c m p) = O.add (O.mul (O.num c) (m_eval m)) (p_eval p)

module _ {O : RingOps} (L : RingLaws O) (ρ : ℕ → O.Carrier) where
  m_insert_is : (v : ℕ) (m : Mono) → m_eval O ρ (m_insert v m) ≡ O.mul (ρ v) (m_eval O ρ m)
  unfolding m_eval
  m_insert_is v unit = refl
  m_insert_is v (times w m) = by (compare v w) (m_insert_is v m)
    where
      by : (o : Ordering) → m_eval O ρ (m_insert v m) ≡ O.mul (ρ v) (m_eval O ρ m)
          → m_eval O ρ (elim o as (λ _. Mono) [ Ordering.lt ↦ times v (times w m) | Ordering.eq ↦ times v (times w m) | Ordering.gt ↦ times w (m_insert v m) ])
          ≡ O.mul (ρ v) (O.mul (ρ w) (m_eval O ρ m))
      by Ordering.lt ih = refl
      by Ordering.eq ih = refl
      by Ordering.gt ih = ap (O.mul (ρ w)) ih ∙ ring.mul_left_comm L (ρ w) (ρ v) (m_eval O ρ m)

  m_mul_is : (m n : Mono) → m_eval O ρ (m_mul m n) ≡ O.mul (m_eval O ρ m) (m_eval O ρ n)
  unfolding m_eval
  m_mul_is unit n = sym (ring.one-mul L (m_eval O ρ n))
  m_mul_is (times v m) n = m_insert_is v (m_mul m n) ∙ ap (O.mul (ρ v)) (m_mul_is m n) ∙ sym (L.mul_assoc (ρ v) (m_eval O ρ m) (m_eval O ρ n))

  cons_is : (c : ℤ) (m : Mono) (p : Poly) → p_eval O ρ (cons c m p) ≡ O.add (O.mul (O.num c) (m_eval O ρ m)) (p_eval O ρ p)
  unfolding p_eval
  cons_is (pos zero) m p = sym (ap (λ x. O.add x (p_eval O ρ p)) (ring.zero-mul L (m_eval O ρ m)) ∙ ring.zero-plus L (p_eval O ρ p))
  cons_is (pos (suc k)) m p = refl
  cons_is (negsuc k) m p = refl

  p_insert_is : (c : ℤ) (m : Mono) (p : Poly) → p_eval O ρ (p_insert c m p) ≡ O.add (O.mul (O.num c) (m_eval O ρ m)) (p_eval O ρ p)
  unfolding p_eval
  p_insert_is c m nil = cons_is c m nil
  p_insert_is c m (term d n p) = by (cmp m n) refl (p_insert_is c m p)
    where
      by : (o : Ordering) → cmp m n ≡ o → p_eval O ρ (p_insert c m p) ≡ O.add (O.mul (O.num c) (m_eval O ρ m)) (p_eval O ρ p)
          → p_eval O ρ (elim o as (λ _. Poly) [ Ordering.lt ↦ cons c m (term d n p) | Ordering.eq ↦ cons (c +ℤ d) n p | Ordering.gt ↦ term d n (p_insert c m p) ])
          ≡ O.add (O.mul (O.num c) (m_eval O ρ m)) (O.add (O.mul (O.num d) (m_eval O ρ n)) (p_eval O ρ p))
      by Ordering.lt e ih = cons_is c m (term d n p)
      by Ordering.eq e ih =
          let same_mono : m_eval O ρ n ≡ m_eval O ρ m = ap (m_eval O ρ) (sym (cmp_eq m n (T_of (cmp m n) e))) in
          cons_is (c +ℤ d) n p
          ∙ ap (λ x. O.add x (p_eval O ρ p)) (ap (λ x. O.mul x (m_eval O ρ n)) (L.num-add c d) ∙ ring.add-mul L (O.num c) (O.num d) (m_eval O ρ n) ∙ ap (λ x. O.add (O.mul (O.num c) x) (O.mul (O.num d) (m_eval O ρ n))) same_mono)
          ∙ L.add_assoc (O.mul (O.num c) (m_eval O ρ m)) (O.mul (O.num d) (m_eval O ρ n)) (p_eval O ρ p)
      by Ordering.gt e ih =
          ap (O.add (O.mul (O.num d) (m_eval O ρ n))) ih
          ∙ ring.add_left_comm L (O.mul (O.num d) (m_eval O ρ n)) (O.mul (O.num c) (m_eval O ρ m)) (p_eval O ρ p)

  p_add_is : (p q : Poly) → p_eval O ρ (p_add p q) ≡ O.add (p_eval O ρ p) (p_eval O ρ q)
  unfolding p_eval
  p_add_is nil q = sym (ring.zero-plus L (p_eval O ρ q))
  p_add_is (term c m p) q =
      p_insert_is c m (p_add p q) ∙ ap (O.add (O.mul (O.num c) (m_eval O ρ m))) (p_add_is p q)
      ∙ sym (L.add_assoc (O.mul (O.num c) (m_eval O ρ m)) (p_eval O ρ p) (p_eval O ρ q))

  p_scale_is : (c : ℤ) (m : Mono) (p : Poly) → p_eval O ρ (p_scale c m p) ≡ O.mul (O.mul (O.num c) (m_eval O ρ m)) (p_eval O ρ p)
  unfolding p_eval
  p_scale_is c m nil = sym (ring.mul-zero L (O.mul (O.num c) (m_eval O ρ m)))
  p_scale_is c m (term d n p) =
      cons_is (c *ℤ d) (m_mul m n) (p_scale c m p)
      ∙ (λ i. O.add (O.mul (L.num-mul c d i) (m_mul_is m n i)) (p_scale_is c m p i))
      ∙ ap (λ x. O.add x (O.mul (O.mul (O.num c) (m_eval O ρ m)) (p_eval O ρ p))) (ring.mul_mul_comm L (O.num c) (O.num d) (m_eval O ρ m) (m_eval O ρ n))
      ∙ sym (L.mul-add (O.mul (O.num c) (m_eval O ρ m)) (O.mul (O.num d) (m_eval O ρ n)) (p_eval O ρ p))

  p_mul_is : (p q : Poly) → p_eval O ρ (p_mul p q) ≡ O.mul (p_eval O ρ p) (p_eval O ρ q)
  unfolding p_eval
  p_mul_is nil q = sym (ring.zero-mul L (p_eval O ρ q))
  p_mul_is (term c m p) q =
      p_add_is (p_scale c m q) (p_mul p q) ∙ (λ i. O.add (p_scale_is c m q i) (p_mul_is p q i))
      ∙ sym (ring.add-mul L (O.mul (O.num c) (m_eval O ρ m)) (p_eval O ρ p) (p_eval O ρ q))

  normal_is : (e : Expr) → p_eval O ρ (normal e) ≡ eval O ρ e
  unfolding p_eval m_eval
  normal_is (var v) = L.add-zero (O.mul (O.num (pos 1)) (O.mul (ρ v) (O.num (pos 1)))) ∙ ring.one-mul L (O.mul (ρ v) (O.num (pos 1))) ∙ L.mul-one (ρ v)
  normal_is (con c) = cons_is c unit nil ∙ L.add-zero (O.mul (O.num c) (O.num (pos 1))) ∙ L.mul-one (O.num c)
  normal_is (add d e) = p_add_is (normal d) (normal e) ∙ (λ i. O.add (normal_is d i) (normal_is e i))
  normal_is (mul d e) = p_mul_is (normal d) (normal e) ∙ (λ i. O.mul (normal_is d i) (normal_is e i))
  normal_is (neg e) =
      p_scale_is (negsuc 0) unit (normal e)
      ∙ (λ i. O.mul (L.mul-one (O.num (negsuc 0)) i) (normal_is e i))
      ∙ ring.minus_one-mul L (eval O ρ e)

  nil_is : (p : Poly) → T (is_nil p) → p_eval O ρ p ≡ O.num (pos 0)
  unfolding p_eval
  nil_is nil t = refl
  nil_is (term c m p) t = absurd t

  pub solve : (d e : Expr) → T (same d e) → eval O ρ d ≡ eval O ρ e
  solve d e t = ring.cancel L (eval O ρ d) (eval O ρ e) (sym (normal_is (add d (neg e))) ∙ nil_is (normal (add d (neg e))) t)

-- the expressions as operations: a formula over any operations, taken at these, is its own expression
abbrev pub exprs : RingOps
exprs = record { Carrier = Expr; add = Expr.add; mul = Expr.mul; neg = Expr.neg; num = con }
