-- Lemmas for the crates above: the span of codes under exclusive or.
use Rattle.std.proofs.Common.{◌≡◌, ℕ, ◌<◌, List, [], ◌∷◌, bit_xor, length, slice_index_or, zero, suc, ap, sym, ◌∙◌, subst, arith, inl, inr, ◌⊎◌, refl}
use Rattle.std.specs.Int.Bits.{xor_self, xor_assoc, xor_comm}
use Rattle.std.proofs.lemmas.Bool.{cases_eq}
use Rattle.pauli_basis.specs.Products.{product_code}
use Rattle.pauli_basis.proofs.Products.{product_code-back}
use Rattle.word_laws.specs.Spans.{IsInSpan, IsSubspace}

-- P·(V·W) is V·(P·W)
pub code_swap : (p v w : ℕ) → product_code p (product_code v w) ≡ product_code v (product_code p w)
code_swap p v w = sym (xor_assoc p v w) ∙ ap (λ x. bit_xor x w) (xor_comm p v) ∙ xor_assoc v p w

-- (P·V)·(P·W) is V·W
pub code_both : (p v w : ℕ) → product_code (product_code p v) (product_code p w) ≡ product_code v w
code_both p v w = code_swap (product_code p v) p w ∙ ap (product_code p) (xor_assoc p v w) ∙ product_code-back p (product_code v w)

-- 0 is in each span
pub span-zero : (codes : List ℕ) → IsInSpan codes 0
span-zero [] = refl
span-zero (p ∷ codes) = inl (span-zero codes)

-- with two of its own it holds their product
pub span_closed : (codes : List ℕ) (v w : ℕ) → IsInSpan codes v → IsInSpan codes w → IsInSpan codes (product_code v w)
span_closed [] v w h g = (λ i. bit_xor (h i) (g i)) ∙ xor_self 0
span_closed (p ∷ codes) v w (inl h) (inl g) = inl (span_closed codes v w h g)
span_closed (p ∷ codes) v w (inl h) (inr g) = inr (subst (IsInSpan codes) (sym (code_swap p v w)) (span_closed codes v (product_code p w) h g))
span_closed (p ∷ codes) v w (inr h) (inl g) = inr (subst (IsInSpan codes) (xor_assoc p v w) (span_closed codes (product_code p v) w h g))
span_closed (p ∷ codes) v w (inr h) (inr g) = inl (subst (IsInSpan codes) (code_both p v w) (span_closed codes (product_code p v) (product_code p w) h g))

-- each of the codes is in it
span_member : (codes : List ℕ) (p k : ℕ) → k < length codes → slice_index_or codes k p ≡ p → IsInSpan codes p
span_member [] p k l e = absurd (omega arith)
span_member (q ∷ codes) p zero l e = inr (subst (IsInSpan codes) (sym (xor_self p) ∙ ap (λ x. bit_xor x p) (sym e)) (span-zero codes))
span_member (q ∷ codes) p (suc k) l e = inl (span_member codes p k (omega arith) e)

-- so it is a subspace that holds them
pub span_subspace : (codes : List ℕ) → IsSubspace codes
span_subspace codes = record { zero = span-zero codes; members = λ p h. span_member codes p h.0 h.1 h.2; closed = span_closed codes }

-- whether a code is in a span can be told
pub decide_span : (codes : List ℕ) (v : ℕ) → IsInSpan codes v ⊎ ¬ IsInSpan codes v
decide_span [] v = cases_eq v 0
decide_span (p ∷ codes) v = by (decide_span codes v) (decide_span codes (product_code p v))
  where
    by : IsInSpan codes v ⊎ ¬ IsInSpan codes v → IsInSpan codes (product_code p v) ⊎ ¬ IsInSpan codes (product_code p v) → IsInSpan (p ∷ codes) v ⊎ ¬ IsInSpan (p ∷ codes) v
    by (inl h) other = inl (inl h)
    by (inr d) (inl h) = inl (inr h)
    by (inr d) (inr e) = inr (λ h. elim h [ inl a ↦ d a | inr b ↦ e b ])
