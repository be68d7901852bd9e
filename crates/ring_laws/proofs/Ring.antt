-- Lemmas for the crates above: what follows from the laws of a commutative ring, and the laws of powers.
use mathlib.Core.Path.{◌≡◌, refl, sym, ap, ◌∙◌}
use Prim.Native.Nat.{ℕ, zero, suc, ◌+◌}
use native.Mathlib.Nat.{zero-add, suc-add}
use lib.IntN.{pos, negsuc}
use Rattle.ring_laws.specs.Ring.{RingOps, RingLaws, power}

module _ {O : RingOps} (L : RingLaws O) where
  open O use {Carrier, add, mul, neg, num}

  pub zero-plus : (a : Carrier) → add (num (pos 0)) a ≡ a
  zero-plus a = L.add_comm (num (pos 0)) a ∙ L.add-zero a

  pub one-mul : (a : Carrier) → mul (num (pos 1)) a ≡ a
  one-mul a = L.mul_comm (num (pos 1)) a ∙ L.mul-one a

  pub add-mul : (a b c : Carrier) → mul (add a b) c ≡ add (mul a c) (mul b c)
  add-mul a b c = L.mul_comm (add a b) c ∙ L.mul-add c a b ∙ (λ i. add (L.mul_comm c a i) (L.mul_comm c b i))

  pub add_left_comm : (a b c : Carrier) → add a (add b c) ≡ add b (add a c)
  add_left_comm a b c = sym (L.add_assoc a b c) ∙ ap (λ x. add x c) (L.add_comm a b) ∙ L.add_assoc b a c

  pub mul_left_comm : (a b c : Carrier) → mul a (mul b c) ≡ mul b (mul a c)
  mul_left_comm a b c = sym (L.mul_assoc a b c) ∙ ap (λ x. mul x c) (L.mul_comm a b) ∙ L.mul_assoc b a c

  -- what adds nothing is zero
  pub zero_of_idem : (a : Carrier) → add a a ≡ a → a ≡ (num (pos 0))
  zero_of_idem a e =
      sym (L.add-zero a) ∙ ap (add a) (sym (L.add-neg a)) ∙ sym (L.add_assoc a a (neg a)) ∙ ap (λ x. add x (neg a)) e ∙ L.add-neg a

  pub mul-zero : (a : Carrier) → mul a (num (pos 0)) ≡ (num (pos 0))
  mul-zero a = zero_of_idem (mul a (num (pos 0))) (sym (L.mul-add a (num (pos 0)) (num (pos 0))) ∙ ap (mul a) (L.add-zero (num (pos 0))))

  pub zero-mul : (a : Carrier) → mul (num (pos 0)) a ≡ (num (pos 0))
  zero-mul a = L.mul_comm (num (pos 0)) a ∙ mul-zero a

  pub neg_unique : (a b : Carrier) → add a b ≡ (num (pos 0)) → b ≡ neg a
  neg_unique a b e =
      sym (zero-plus b) ∙ ap (λ x. add x b) (sym (L.add-neg a) ∙ L.add_comm a (neg a)) ∙ L.add_assoc (neg a) a b ∙ ap (add (neg a)) e ∙ L.add-zero (neg a)

  pub cancel : (a b : Carrier) → add a (neg b) ≡ (num (pos 0)) → a ≡ b
  cancel a b e =
      sym (L.add-zero a) ∙ ap (add a) (sym (L.add-neg b) ∙ L.add_comm b (neg b)) ∙ sym (L.add_assoc a (neg b) b) ∙ ap (λ x. add x b) e ∙ zero-plus b

  pub minus_one-mul : (a : Carrier) → mul (num (negsuc 0)) a ≡ neg a
  minus_one-mul a =
      neg_unique a (mul (num (negsuc 0)) a)
      (ap (λ x. add x (mul (num (negsuc 0)) a)) (sym (one-mul a)) ∙ sym (add-mul (num (pos 1)) (num (negsuc 0)) a)
      ∙ ap (λ x. mul x a) (sym (L.num-add (pos 1) (negsuc 0))) ∙ zero-mul a)

  pub mul_mul_comm : (a b c d : Carrier) → mul (mul a b) (mul c d) ≡ mul (mul a c) (mul b d)
  mul_mul_comm a b c d = L.mul_assoc a b (mul c d) ∙ ap (mul a) (mul_left_comm b c d) ∙ sym (L.mul_assoc a c (mul b d))

  pub mul-neg : (a b : Carrier) → mul a (neg b) ≡ neg (mul a b)
  mul-neg a b = neg_unique (mul a b) (mul a (neg b)) (sym (L.mul-add a b (neg b)) ∙ ap (mul a) (L.add-neg b) ∙ mul-zero a)

  pub neg-mul : (a b : Carrier) → mul (neg a) b ≡ neg (mul a b)
  neg-mul a b = L.mul_comm (neg a) b ∙ mul-neg b a ∙ ap neg (L.mul_comm b a)

  pub neg-neg : (a : Carrier) → neg (neg a) ≡ a
  neg-neg a = sym (neg_unique (neg a) a (L.add_comm (neg a) a ∙ L.add-neg a))

  -- ---- powers
  pub power-add : (a : Carrier) (m n : ℕ) → power O a (m + n) ≡ mul (power O a m) (power O a n)
  unfolding power
  power-add a zero n = rw zero-add (sym (one-mul (power O a n)))
  power-add a (suc m) n = rw suc-add (ap (mul a) (power-add a m n) ∙ sym (L.mul_assoc a (power O a m) (power O a n)))

  pub power-one : (a : Carrier) → power O a 1 ≡ a
  unfolding power
  power-one a = L.mul-one a

  pub power-zero : (a : Carrier) → power O a 0 ≡ num (pos 1)
  unfolding power
  power-zero a = refl

  pub power-suc : (a : Carrier) (k : ℕ) → power O a (suc k) ≡ mul a (power O a k)
  unfolding power
  power-suc a k = refl
