-- Lemmas for the crates above: the entries of identity matrices, over any commutative ring.
use Rattle.std.proofs.Common.{◌≡◌, ℕ, ◌+◌, ◌*◌, ◌/◌, ◌%◌, Bool, true, false, cond, eqb, eqb→eq, T as Holds, refl, ap, sym, subst, ◌∙◌, inl, inr}
use Rattle.std.specs.Prelude.{pos}
use Rattle.std.proofs.lemmas.Bool.{cases_eq}
use Rattle.std.proofs.lemmas.Nat.{div-add-mod'}
use lib.Dec.{eqb_refl}
use Rattle.ring_laws.specs.Ring.{RingOps, RingLaws}
use Rattle.ring_laws.specs.Matrix.{identity, kronecker}
use Rattle.ring_laws.proofs.Ring as laws

module _ {O : RingOps} (L : RingLaws O) where
  open O use {Carrier, mul, num}

  -- 1 on the diagonal
  pub identity_same : (i j : ℕ) → i ≡ j → identity O i j ≡ num (pos 1)
  unfolding identity
  identity_same i j e = by (eqb i j) (subst (λ x. Holds (eqb i x)) e (eqb_refl i))
    where
      by : (t : Bool) → Holds t → cond t (num (pos 1)) (num (pos 0)) ≡ num (pos 1)
      by true h = refl
      by false h = absurd h

  -- and 0 beside it
  pub identity_apart : (i j : ℕ) → ¬ (i ≡ j) → identity O i j ≡ num (pos 0)
  unfolding identity
  identity_apart i j d = by (eqb i j) (λ t. d (eqb→eq i j t))
    where
      by : (t : Bool) → ¬ (Holds t) → cond t (num (pos 1)) (num (pos 0)) ≡ num (pos 0)
      by true h = absurd (h tt)
      by false h = refl

  -- the Kronecker product of two identities is the identity
  pub kronecker-identity : (n i j : ℕ) → kronecker O n (identity O) (identity O) i j ≡ identity O i j
  unfolding kronecker
  kronecker-identity n i j = elim (cases_eq i j) [
    | inl e ↦ (λ t. mul (identity_same (i / n) (j / n) (ap (λ k. k / n) e) t) (identity_same (i % n) (j % n) (ap (λ k. k % n) e) t))
        ∙ laws.one-mul L (num (pos 1)) ∙ sym (identity_same i j e)
    | inr d ↦ elim (cases_eq (i / n) (j / n)) [
      | inl e ↦ ap (mul (identity O (i / n) (j / n)))
          (identity_apart (i % n) (j % n) (λ f. d (sym (div-add-mod' i n) ∙ (λ t. e t * n + f t) ∙ div-add-mod' j n)))
          ∙ laws.mul-zero L (identity O (i / n) (j / n)) ∙ sym (identity_apart i j d)
      | inr d' ↦ ap (λ x. mul x (identity O (i % n) (j % n))) (identity_apart (i / n) (j / n) d') ∙ laws.zero-mul L (identity O (i % n) (j % n)) ∙ sym (identity_apart i j d)
    ]
  ]
