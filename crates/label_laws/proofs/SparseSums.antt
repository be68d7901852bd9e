-- Lemmas for the crates above: the fold of a column that is kept by its cells other than 0.
use Rattle.std.proofs.Common.{◌≡◌, ℕ, zero, suc, ◌+◌, ◌-◌, ◌*◌, ◌%◌, ◌^◌, ◌<◌, ◌≤◌, List, [], ◌∷◌, length, slice_index, refl, ap, sym, ◌∙◌, subst, arith, inl, inr}
use Rattle.std.specs.Prelude.{ℤ, pos, negsuc, neg_ℤ, ◌≤ℤ◌, ◌+ℤ◌, ◌*ℤ◌}
use Rattle.std.specs.Int.{cast_unsigned, cast_signed}
use Rattle.std.proofs.Common.{w64}
use Rattle.std.proofs.lemmas.Int.{of_z-to_z}
use Rattle.std.proofs.lemmas.Bool.{cases_eq, cases_lt}
use Rattle.std.proofs.lemmas.Int.{ints}
use Rattle.ring_laws.specs.Matrix.{sum, product}
use Rattle.ring_laws.proofs.Ring.{mul-zero}
use Rattle.ring_laws.proofs.Integers.{integers_laws}
use Rattle.ring_laws.proofs.Reader.{ring, reads}
use Rattle.tc_ring.specs.Surds.{Surd, surds, surd_integer, surd_plus, surd_times, zero_surd}
use Rattle.tc_ring.specs.declared.root2.Root2.{Root2}
use Rattle.tc_ring.proofs.Surds.{surds_laws, surd_plus-zero}
use Rattle.channel_rep.specs.Tables.{SurdTable}
use Rattle.channel_rep.specs.Cells.{cell_of}
use Rattle.label_laws.specs.Congruence.{IsCongruent}
use Rattle.label_laws.specs.Folds.{weighed}
use Rattle.label_laws.specs.Sparse.{IsSparseColumn}
use Rattle.label_laws.proofs.Congruences.{congruent_self, congruent-plus, congruent-times, congruent_again, congruent_cut}

-- the first row that the first cells leave open
abbrev pub open_from : List ℕ → ℕ → ℕ
open_from rows zero = 0
open_from rows (suc k) = slice_index rows k + 1

-- the sum of the first rows
abbrev pub sum_to : SurdTable → SurdTable → ℕ → ℕ → Surd
sum_to w m column count = sum surds count (λ r. surd_times (w 0 r) (m r column))

-- rows of zeros add nothing
sum_gap : (w m : SurdTable) (column i n : ℕ) → ((r : ℕ) → i ≤ r → r < i + n → m r column ≡ zero_surd) → sum_to w m column (i + n) ≡ sum_to w m column i
unfolding sum
sum_gap w m column i zero h = let e : i + 0 ≡ i = omega arith in ap (sum_to w m column) e
sum_gap w m column i (suc n) h =
    let e : i + suc n ≡ suc (i + n) = omega arith in
    ap (sum_to w m column) e
    ∙ (λ t. surd_plus (sum_gap w m column i n (λ r l k. h r l (omega arith)) t) (surd_times (w 0 (i + n)) (h (i + n) (omega arith) (omega arith) t)))
    ∙ ap (surd_plus (sum_to w m column i)) (mul-zero surds_laws (w 0 (i + n))) ∙ surd_plus-zero (sum_to w m column i)

module _ (size : ℕ) (m : SurdTable) (column : ℕ) (rows : List ℕ) (cells : List Root2) (h : IsSparseColumn size m column rows cells) where
  -- rows that the first k cells leave open, up to the next one, aren't kept
  gap : (k : ℕ) → k ≤ length rows → (r : ℕ) → open_from rows k ≤ r → r < size → (k < length rows → r < slice_index rows k) → m r column ≡ zero_surd
  gap k few r low below next = h.zeros r below (λ j l e. elim (cases_lt j k) [
    | inl before ↦ earlier k j before l few low e
    | inr after ↦ (let at = next (omega arith) in elim (cases_eq j k) [
      | inl same ↦ (let is : slice_index rows j ≡ slice_index rows k = ap (slice_index rows) same in omega arith)
      | inr apart ↦ (let more = h.rising k j (omega arith) l in omega arith)
    ])
  ])
    where
      earlier : (k j : ℕ) → j < k → j < length rows → k ≤ length rows → open_from rows k ≤ r → slice_index rows j ≡ r → ⊥
      earlier zero j before l few low e = omega arith
      earlier (suc k) j before l few low e = elim (cases_eq j k) [
        | inl same ↦ (let is : slice_index rows j ≡ slice_index rows k = ap (slice_index rows) same in omega arith)
        | inr apart ↦ (let more = h.rising j k (omega arith) (omega arith) in omega arith)
      ]

  -- what is open begins at most at the next row
  open_low : (k : ℕ) → k < length rows → open_from rows k ≤ slice_index rows k
  open_low zero l = omega arith
  open_low (suc k) l = let more = h.rising k (suc k) (omega arith) l in omega arith

  open_most : (k : ℕ) → k ≤ length rows → open_from rows k ≤ size
  open_most zero l = omega arith
  open_most (suc k) l = let low = h.below k (omega arith) in omega arith

  -- one kept row more
  pub sum_more : (w : SurdTable) (k : ℕ) → k < length rows → sum_to w m column (open_from rows (suc k)) ≡ surd_plus (sum_to w m column (open_from rows k)) (surd_times (w 0 (slice_index rows k)) (cell_of cells k))
  unfolding sum
  sum_more w k l =
      let low = open_low k l in
      let below = h.below k l in
      let gap_size : open_from rows k + (slice_index rows k - open_from rows k) ≡ slice_index rows k = omega arith in
      let next : slice_index rows k + 1 ≡ suc (slice_index rows k) = omega arith in
      ap (sum_to w m column) next
      ∙ (λ i. surd_plus ((sym (ap (sum_to w m column) gap_size) ∙ sum_gap w m column (open_from rows k) (slice_index rows k - open_from rows k) (λ r from to. gap k (omega arith) r from (omega arith) (λ _. omega arith))) i)
      (surd_times (w 0 (slice_index rows k)) (sym (h.are k l) i)))

  -- all of them
  pub sum_all : (w : SurdTable) (k : ℕ) → k ≡ length rows → sum_to w m column size ≡ sum_to w m column (open_from rows k)
  sum_all w k e =
      let most = open_most k (omega arith) in
      let gap_size : open_from rows k + (size - open_from rows k) ≡ size = omega arith in
      sym (ap (sum_to w m column) gap_size)
      ∙ sum_gap w m column (open_from rows k) (size - open_from rows k) (λ r from to. gap k (omega arith) r from (omega arith) (λ l. absurd (omega arith)))

-- a signed number of 64 bits, taken as one without sign
pub congruent_cast : (z : ℤ) (r : ℕ) → neg_ℤ (pos (2 ^ 62)) ≤ℤ z → z ≤ℤ pos (2 ^ 62) → r ≡ cast_unsigned w64 (cast_signed w64 (cast_unsigned w64 z)) → IsCongruent (2 ^ 64) z r
congruent_cast (pos n) r low high e = let is : r ≡ n = e ∙ of_z-to_z w64 n (omega (arith, ints)) in subst (IsCongruent (2 ^ 64) (pos n)) (sym is) (congruent_self (2 ^ 64) n)
congruent_cast (negsuc n) r low high e =
    let small : n < 2 ^ 63 = omega (arith, ints) in
    let is : r ≡ 2 ^ 64 - suc n = e ∙ of_z-to_z w64 (2 ^ 64 - suc n) (omega arith) in
    (pos 1, omega (arith, ints))

-- the part of √2 of a sum with one product more
pub part_more : (s w x : Surd) → (surd_plus s (surd_times w x)).b ≡ s.b +ℤ w.b *ℤ x.a +ℤ w.a *ℤ x.b
unfolding surd_plus surd_times
part_more s w x = ring integers_laws (s.b ∷ w.a ∷ w.b ∷ x.a ∷ x.b ∷ []) (search reads depth 30 parts 0 fits 10000) tt

-- one kept row more, in the numbers of the code
pub step_more : (s W P a b : ℤ) (sum ws wp ca cb : ℕ) → IsCongruent (2 ^ 64) s sum → IsCongruent (2 ^ 64) W ws → IsCongruent (2 ^ 64) P wp → IsCongruent (2 ^ 64) a ca → IsCongruent (2 ^ 64) b cb
    → IsCongruent (2 ^ 64) (s +ℤ W *ℤ a +ℤ P *ℤ b) (((sum + ws * ca % 2 ^ 64) % 2 ^ 64 + wp * cb % 2 ^ 64) % 2 ^ 64)
step_more s W P a b sum ws wp ca cb h hw hp ha hb =
    cut _ _ (congruent-plus (2 ^ 64) (s +ℤ W *ℤ a) (P *ℤ b) _ _
    (cut _ _ (congruent-plus (2 ^ 64) s (W *ℤ a) _ _ h (cut _ _ (congruent-times (2 ^ 64) W a ws ca hw ha))))
    (cut _ _ (congruent-times (2 ^ 64) P b wp cb hp hb)))
  where
    cut : (x : ℤ) (f : ℕ) → IsCongruent (2 ^ 64) x f → IsCongruent (2 ^ 64) x (f % 2 ^ 64)
    cut x f k = congruent_again (2 ^ 64) x f (f % 2 ^ 64) (congruent_cut (2 ^ 64) f) k

-- no row
pub none_summed : (w m : SurdTable) (column : ℕ) → IsCongruent (2 ^ 64) (sum_to w m column 0).b 0
unfolding sum surd_integer
none_summed w m column = congruent_self (2 ^ 64) 0

-- all rows
pub weighed_to : (size : ℕ) (w m : SurdTable) (column : ℕ) → weighed size w m column ≡ (sum_to w m column size).b
unfolding product
weighed_to size w m column = refl
