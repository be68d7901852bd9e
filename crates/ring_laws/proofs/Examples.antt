-- Identities that the solver closes: over the whole numbers, over any ring, over Z[ω], and with a hypothesis.
use mathlib.Core.Path.{◌≡◌}
use mathlib.Core.List.{[], ◌∷◌}
use Prim.Native.Nat.{ℕ, suc}
use lib.IntN.{ℤ, pos, ◌+ℤ◌, ◌-ℤ◌, ◌*ℤ◌}
use Rattle.ring_laws.specs.Ring.{RingOps, RingLaws, integers}
use Rattle.ring_laws.specs.Cyclotomic.{Cyclotomic, Zω, plus, times, integer, root2, product_formula, norm_whole, norm_root}
use Rattle.ring_laws.proofs.Integers.{integers_laws}
use Rattle.ring_laws.proofs.Solver.{Expr, var, exprs, solve}
use Rattle.ring_laws.proofs.Reader.{ring, reads, from, at}
use Rattle.ring_laws.proofs.Cyclotomic.{coordinates, cyclotomics_laws, root2-root2}

-- a product of two sums of two squares is one: Brahmagupta's identity
two_squares : (a b c d : ℤ) → (a *ℤ a +ℤ b *ℤ b) *ℤ (c *ℤ c +ℤ d *ℤ d) ≡ (a *ℤ c -ℤ b *ℤ d) *ℤ (a *ℤ c -ℤ b *ℤ d) +ℤ (a *ℤ d +ℤ b *ℤ c) *ℤ (a *ℤ d +ℤ b *ℤ c)
two_squares a b c d = ring integers_laws (a ∷ b ∷ c ∷ d ∷ []) (search reads depth 30 parts 0 fits 10000) tt

difference_of_squares : {O : RingOps} (L : RingLaws O) (a b : O.Carrier) → O.mul (O.add a b) (O.add a (O.neg b)) ≡ O.add (O.mul a a) (O.neg (O.mul b b))
difference_of_squares L a b = ring L (a ∷ b ∷ []) (search reads depth 30 parts 0 fits 10000) tt

square : (x y : Zω) → times (plus x y) (plus x y) ≡ plus (times x x) (plus (times (integer (pos 2)) (times x y)) (times y y))
square x y = ring cyclotomics_laws (x ∷ y ∷ []) (search reads depth 30 parts 0 fits 10000) tt

with_root : (x y : Zω) → times (times root2 x) (times y root2) ≡ times (integer (pos 2)) (times x y)
with_root x y = from cyclotomics_laws (times x y) root2-root2 (ring cyclotomics_laws (x ∷ y ∷ root2 ∷ []) (search reads depth 30 parts 0 fits 10000) tt)

-- with the expressions given, as the formulas at `exprs`: for goals that are too long for `search`
atoms : ℕ → Cyclotomic Expr
atoms n = record { x0 = var n; x1 = var (suc n); x2 = var (suc (suc n)); x3 = var (suc (suc (suc n))) }

norm_by_formula : (x y : Zω) → norm_root integers (times x y) ≡ norm_whole integers x *ℤ norm_root integers y +ℤ norm_root integers x *ℤ norm_whole integers y
unfolding times atoms
norm_by_formula x y =
    solve integers_laws (at integers (coordinates x (coordinates y []))) (norm_root exprs (product_formula exprs (atoms 0) (atoms 4)))
    (Expr.add (Expr.mul (norm_whole exprs (atoms 0)) (norm_root exprs (atoms 4))) (Expr.mul (norm_root exprs (atoms 0)) (norm_whole exprs (atoms 4)))) tt
