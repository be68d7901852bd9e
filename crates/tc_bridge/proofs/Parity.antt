-- Even and odd whole numbers.
use Rattle.std.proofs.Common.{◌≡◌, ◌/◌, ◌%◌, [], ◌∷◌, sym, ◌∙◌, arith, negsuc, inl, inr}
use Rattle.std.specs.Prelude.{ℤ, pos, ◌+ℤ◌, ◌*ℤ◌}
use Rattle.std.proofs.lemmas.Bool.{cases_eq}
use Rattle.std.proofs.lemmas.Int.{ints}
use Rattle.ring_laws.proofs.Integers.{integers_laws}
use Rattle.ring_laws.proofs.Reader.{ring, reads}

-- twice a number
pub record IsEven (z : ℤ) : Type 0 where
  pub half : ℤ
  pub twice : z ≡ half +ℤ half

-- one more than twice a number
pub record IsOdd (z : ℤ) : Type 0 where
  pub half : ℤ
  pub one_more : z ≡ half +ℤ half +ℤ pos 1

-- each number is one or the other
pub data Parity (z : ℤ) : Type 0 where
  even : IsEven z → Parity z
  odd : IsOdd z → Parity z

-- which of the two
pub parity : (z : ℤ) → Parity z
parity (pos n) = elim (cases_eq (n % 2) 0) [
  | inl e ↦ even (record { half = pos (n / 2); twice = omega (arith, ints) })
  | inr d ↦ odd (record { half = pos (n / 2); one_more = omega (arith, ints) })
]
parity (negsuc n) = elim (cases_eq (n % 2) 0) [
  | inl e ↦ odd (record { half = negsuc (n / 2); one_more = omega (arith, ints) })
  | inr d ↦ even (record { half = negsuc (n / 2); twice = omega (arith, ints) })
]

-- no number is even and odd
not_both : (a b : ℤ) → a +ℤ a +ℤ pos 1 ≡ b +ℤ b → ⊥
not_both a b e = omega (arith, ints)

-- odd numbers have no even product
odd_product : (s t v : ℤ) → IsOdd s → IsOdd t → s *ℤ t ≡ v +ℤ v → ⊥
odd_product s t v p q g =
    not_both (pos 2 *ℤ (p.half *ℤ q.half) +ℤ p.half +ℤ q.half) v
    (ring integers_laws (p.half ∷ q.half ∷ []) (search reads depth 30 parts 0 fits 10000) tt ∙ sym (λ i. p.one_more i *ℤ q.one_more i) ∙ g)

-- an odd and an even square have no even sum
odd_squares : (s t u : ℤ) → IsOdd s → IsEven t → s *ℤ s +ℤ t *ℤ t ≡ u +ℤ u → ⊥
odd_squares s t u p q h =
    not_both (pos 2 *ℤ (p.half *ℤ p.half) +ℤ pos 2 *ℤ p.half +ℤ pos 2 *ℤ (q.half *ℤ q.half)) u
    (ring integers_laws (p.half ∷ q.half ∷ []) (search reads depth 30 parts 0 fits 10000) tt ∙ sym (λ i. p.one_more i *ℤ p.one_more i +ℤ q.twice i *ℤ q.twice i) ∙ h)

-- two numbers are even where their product and the sum of their squares are
pub even_both : (s t u v : ℤ) → s *ℤ s +ℤ t *ℤ t ≡ u +ℤ u → s *ℤ t ≡ v +ℤ v → IsEven s × IsEven t
even_both s t u v h g = by (parity s) (parity t)
  where
    by : Parity s → Parity t → IsEven s × IsEven t
    by (even p) (even q) = (p, q)
    by (even p) (odd q) = absurd (odd_squares t s u q p (ring integers_laws (s ∷ t ∷ []) (search reads depth 30 parts 0 fits 10000) tt ∙ h))
    by (odd p) (even q) = absurd (odd_squares s t u p q h)
    by (odd p) (odd q) = absurd (odd_product s t v p q g)
