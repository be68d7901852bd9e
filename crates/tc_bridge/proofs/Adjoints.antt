-- Lemmas for the crates above: conjugate transposes.
use Rattle.std.proofs.Common.{◌≡◌, ℕ, zero, suc, refl, ap, sym, ◌∙◌, inl, inr}
use Rattle.std.proofs.lemmas.Bool.{cases_eq}
use Rattle.ring_laws.specs.Matrix.{sum, product, identity}
use Rattle.ring_laws.specs.Cyclotomic.{Zω, cyclotomics, integer, plus, times, conjugate, zero_number, one_number}
use Rattle.ring_laws.proofs.Sums.{sum_cong}
use Rattle.tc_bridge.proofs.Identities.{identity_same, identity_apart}
use Rattle.tc_bridge.proofs.Matrices.{Alike, alike}
use Rattle.ring_laws.proofs.Cyclotomic.{cyclotomics_laws as laws, times_comm, conjugate-plus, conjugate-times, conjugate-conjugate}
use Rattle.tc_circuit.specs.Gate.{Table}

-- the conjugate transpose
unfoldable pub adjoint : Table → Table
adjoint a row column = conjugate (a column row)

-- 0 and 1 are real
pub conjugate-zero : conjugate zero_number ≡ zero_number
unfolding conjugate integer
conjugate-zero = refl

pub conjugate-one : conjugate one_number ≡ one_number
unfolding conjugate integer
conjugate-one = refl

-- the conjugate of a sum
conjugate-sum : (n : ℕ) (f : ℕ → Zω) → conjugate (sum cyclotomics n f) ≡ sum cyclotomics n (λ k. conjugate (f k))
unfolding sum
conjugate-sum zero f = conjugate-zero
conjugate-sum (suc n) f = conjugate-plus (sum cyclotomics n f) (f n) ∙ ap (λ x. plus x (conjugate (f n))) (conjugate-sum n f)

module _ {n : ℕ} where
  -- (a·b)† is b†·a†
  pub adjoint-product : (a b : Table) → Alike cyclotomics n (adjoint (product cyclotomics n a b)) (product cyclotomics n (adjoint b) (adjoint a))
  unfolding adjoint product
  adjoint-product a b = alike (λ r c. conjugate-sum n (λ k. times (a c k) (b k r))
      ∙ sum_cong laws n _ _ (λ k l. conjugate-times (a c k) (b k r) ∙ times_comm (conjugate (a c k)) (conjugate (b k r))))

  -- the adjoint of the adjoint is the matrix
  pub adjoint-adjoint : (a : Table) → Alike cyclotomics n (adjoint (adjoint a)) a
  unfolding adjoint
  adjoint-adjoint a = alike (λ r c. conjugate-conjugate (a r c))

  -- the identity is its own adjoint
  pub adjoint-identity : Alike cyclotomics n (adjoint (identity cyclotomics)) (identity cyclotomics)
  unfolding adjoint
  adjoint-identity = alike (λ r c. elim (cases_eq r c) [
    | inl e ↦ ap conjugate (identity_same laws c r (sym e)) ∙ conjugate-one ∙ sym (identity_same laws r c e)
    | inr d ↦ ap conjugate (identity_apart laws c r (λ e. d (sym e))) ∙ conjugate-zero ∙ sym (identity_apart laws r c d)
  ])
