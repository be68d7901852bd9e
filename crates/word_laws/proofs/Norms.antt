-- Lemmas for the crates above: behind a letter the channel of a circuit can't be divided by √2 more often than its exponent and 1: the norm of its columns is no
-- multiple of 4 where it is 2.
use Rattle.std.proofs.Common.{◌≡◌, ◌≢◌, ℕ, ◌+◌, ◌^◌, ◌<◌, ◌≤◌, Bool, true, false, [], ◌∷◌, ap, sym, ◌∙◌, arith, inl, inr}
use Rattle.std.specs.Prelude.{ℤ, pos, ◌+ℤ◌, ◌*ℤ◌}
use Rattle.std.proofs.lemmas.Bool.{cases_eq}
use Rattle.std.proofs.lemmas.Int.{ints}
use Rattle.ring_laws.specs.Matrix.{product}
use Rattle.ring_laws.proofs.Sums.{sum_cong, mul-sum}
use Rattle.ring_laws.proofs.Integers.{integers_laws}
use Rattle.ring_laws.proofs.Reader.{ring, reads}
use Rattle.tc_ring.specs.Surds.{Surd, surd, surds, surd_times, root2_surd}
use Rattle.tc_ring.proofs.Surds.{root2_surd-times}
use Rattle.channel_rep.specs.Norms.{norm, column_norm, HasOrthogonalColumns}
use Rattle.channel_rep.specs.Rows.{rotated}
use Rattle.channel_rep.specs.Tables.{ScaledTable, by_rotation, by_inverse_rotation, IsCircuitChannel, rotation_table}
use Rattle.channel_rep.proofs.Built.{root2_to}
use Rattle.channel_rep.proofs.Norms.{step_columns, circuit_columns, product_orthogonal, norm_of_orthogonal}
use Rattle.channel_rep.proofs.Rules.{rotation_rule}
use Rattle.channel_rep.proofs.Squares.{codes_some}
use Rattle.word_laws.specs.Divisions.{IsMultiple, IsDivisionCount}
use Rattle.word_laws.proofs.Multiples.{root2_to-two}

-- 2 times a number has four times its norm
four_norms : (a b : ℤ) → pos 2 *ℤ a *ℤ (pos 2 *ℤ a) +ℤ pos 2 *ℤ (pos 2 *ℤ b *ℤ (pos 2 *ℤ b)) ≡ pos 4 *ℤ (a *ℤ a +ℤ pos 2 *ℤ (b *ℤ b))
four_norms a b = ring integers_laws (a ∷ b ∷ []) (search reads depth 30 parts 0 fits 10000) tt

norm_twice : (x : Surd) → norm (surd_times root2_surd (surd_times root2_surd x)) ≡ pos 4 *ℤ norm x
norm_twice x = ap norm (ap (surd_times root2_surd) (root2_surd-times x) ∙ root2_surd-times (surd (pos 2 *ℤ x.b) x.a)) ∙ four_norms x.a x.b

module _ (n : ℕ) (some : 0 < n) (few : n ≤ 3) (inverse : Bool) (p : ℕ) (lp : p < 4 ^ n) (d : p ≢ 0) (a : ScaledTable) (circuit : IsCircuitChannel n a) where
  -- a rotation's columns are orthogonal
  letter_columns : (way : Bool) → HasOrthogonalColumns (4 ^ n) 1 (rotation_table n way p)
  letter_columns true = step_columns n some few (by_inverse_rotation p) (lp, d)
  letter_columns false = step_columns n some few (by_rotation p) (lp, d)

  -- so the norm of a column of the product is that of the channel, twice
  behind_norm : column_norm (4 ^ n) (product surds (4 ^ n) (rotation_table n inverse p) a.table) 0 ≡ pos (2 ^ (1 + a.exponent))
  behind_norm =
      norm_of_orthogonal (4 ^ n) (1 + a.exponent) (product surds (4 ^ n) (rotation_table n inverse p) a.table)
      (product_orthogonal (4 ^ n) 1 a.exponent (rotation_table n inverse p) a.table (letter_columns inverse) (circuit_columns n some few a circuit)) 0 (codes_some n)

  -- and a multiple of 4 where the product can be divided twice
  four_fold : (h : IsMultiple n 2 (rotated n inverse p a.table)) → column_norm (4 ^ n) (product surds (4 ^ n) (rotation_table n inverse p) a.table) 0 ≡ pos 4 *ℤ column_norm (4 ^ n) h.0 0
  four_fold h =
      sum_cong integers_laws (4 ^ n) _ _ (λ r l. ap norm (rotation_rule n inverse p lp d a.table r 0 l ∙ sym (h.1 r 0 l (codes_some n)) ∙ root2_to-two (h.0 r 0)) ∙ norm_twice (h.0 r 0))
      ∙ sym (mul-sum integers_laws (4 ^ n) (pos 4) (λ r. norm (h.0 r 0)))

  -- which 2 isn't
  not_twice : a.exponent ≡ 0 → IsMultiple n 2 (rotated n inverse p a.table) → ⊥
  not_twice none h = by (column_norm (4 ^ n) h.0 0) (ap (λ k. pos (2 ^ (1 + k))) (sym none) ∙ sym behind_norm ∙ four_fold h)
    where
      by : (z : ℤ) → pos (2 ^ (1 + 0)) ≡ pos 4 *ℤ z → ⊥
      by z e = omega (arith, ints)

  -- the divisions are at most the exponent and 1
  pub divisions_below : (count : ℕ) → IsDivisionCount n (rotated n inverse p a.table) count → count ≤ a.exponent + 1
  divisions_below count is = elim (cases_eq a.exponent 0) [
    | inr more ↦ omega (arith, is.few)
    | inl none ↦ elim (cases_eq count 2) [
      | inr less ↦ omega (arith, is.few)
      | inl two ↦ absurd (not_twice none (at two is.divides))
    ]
  ]
    where
      at : count ≡ 2 → IsMultiple n count (rotated n inverse p a.table) → IsMultiple n 2 (rotated n inverse p a.table)
      at e h = (h.0, λ row column l k. ap (λ j. surd_times (root2_to j) (h.0 row column)) (sym e) ∙ h.1 row column l k)
