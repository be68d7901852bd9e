-- Lemmas for the crates above: polynomial identities with no expression written out: `search reads` reads the expressions off the goal.
--     ring L xs (search reads depth 30 parts 0 fits 10000) tt : a ≡ b
-- L is the ring's laws, and xs the list of the goal's atoms. An error `expected ⊥` at `tt` says that the identity is false; one at `search` that an atom is missing from xs, or that the goal is too long.
use mathlib.Core.Path.{◌≡◌, refl, sym, ap, ◌∙◌}
use mathlib.Core.List.{List, [], ◌∷◌}
use Prim.Native.Nat.{ℕ, zero, suc}
use lib.Dec.{T}
use lib.IntN.{pos, negsuc}
use Rattle.ring_laws.specs.Ring.{RingOps, RingLaws}
use Rattle.ring_laws.proofs.Solver.{Expr, var, con, solve, same, eval}

-- the atoms by number; a number past the end is zero
abbrev pub at : (O : RingOps) → List O.Carrier → ℕ → O.Carrier
at O [] n = O.num (pos 0)
at O (x ∷ xs) zero = x
at O (x ∷ xs) (suc n) = at O xs n

-- where a stands in the list xs
pub record Place (O : RingOps) (xs : List O.Carrier) (a : O.Carrier) : Type 0 where
  pub n : ℕ
  pub is : at O xs n ≡ a

-- an expression whose value at the atoms xs is a
pub record Read (O : RingOps) (xs : List O.Carrier) (a : O.Carrier) : Type 0 where
  pub e : Expr
  pub is : eval O (at O xs) e ≡ a

-- expressions for the two sides of an equation
pub record Sides (O : RingOps) (xs : List O.Carrier) (a b : O.Carrier) : Type 0 where
  pub l : Read O xs a
  pub r : Read O xs b

module _ {O : RingOps} where
  abbrev pub here : {x : O.Carrier} {xs : List O.Carrier} → Place O (x ∷ xs) x
  here = record { n = zero; is = refl }

  abbrev pub there : {x a : O.Carrier} {xs : List O.Carrier} → Place O xs a → Place O (x ∷ xs) a
  there p = record { n = suc p.n; is = p.is }

module _ {O : RingOps} {xs : List O.Carrier} where
  abbrev pub r_var : {a : O.Carrier} → Place O xs a → Read O xs a
  r_var p = record { e = var p.n; is = p.is }

  abbrev pub r_add : {a b : O.Carrier} → Read O xs a → Read O xs b → Read O xs (O.add a b)
  r_add p q = record { e = Expr.add p.e q.e; is = λ i. O.add (p.is i) (q.is i) }

  abbrev pub r_mul : {a b : O.Carrier} → Read O xs a → Read O xs b → Read O xs (O.mul a b)
  r_mul p q = record { e = Expr.mul p.e q.e; is = λ i. O.mul (p.is i) (q.is i) }

  abbrev pub r_neg_of : {a : O.Carrier} → Read O xs a → Read O xs (O.neg a)
  r_neg_of p = record { e = Expr.neg p.e; is = λ i. O.neg (p.is i) }

  abbrev pub r_pos : (n : ℕ) → Read O xs (O.num (pos n))
  r_pos n = record { e = con (pos n); is = refl }

  abbrev pub r_neg : (n : ℕ) → Read O xs (O.num (negsuc n))
  r_neg n = record { e = con (negsuc n); is = refl }

  abbrev pub r_sides : {a b : O.Carrier} → Read O xs a → Read O xs b → Sides O xs a b
  r_sides p q = record { l = p; r = q }

pub ruleset reads = (here, there, r_add, r_mul, r_neg_of, r_pos, r_neg, r_var, r_sides)

module _ {O : RingOps} (L : RingLaws O) where
  open O use {Carrier, add, mul, neg, num}

  pub ring : (xs : List Carrier) {a b : Carrier} (s : Sides O xs a b) → T (same s.l.e s.r.e) → a ≡ b
  ring xs s t = sym s.l.is ∙ solve L (at O xs) s.l.e s.r.e t ∙ s.r.is

  -- a ≡ b from an equation l ≡ r, taken k times
  pub from : {a b l r : Carrier} (k : Carrier) → l ≡ r → add a (mul k r) ≡ add b (mul k l) → a ≡ b
  from {a} {b} {l} {r} k e h =
      let out : (x y : Carrier) → add (add x y) (neg y) ≡ x = λ x y. L.add_assoc x y (neg y) ∙ ap (add x) (L.add-neg y) ∙ L.add-zero x in
      sym (out a (mul k r)) ∙ ap (λ x. add x (neg (mul k r))) (h ∙ ap (λ x. add b (mul k x)) e) ∙ out b (mul k r)
