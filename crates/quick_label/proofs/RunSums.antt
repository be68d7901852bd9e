-- Sums of runs of numbers, one number after the other, and of columns, one column after the other.
use Rattle.std.proofs.Common.{◌≡◌, ℕ, zero, suc, ◌+◌, ◌-◌, ◌*◌, ◌%◌, ◌^◌, ◌<◌, ◌≤◌, List, [], ◌∷◌, length, slice_index, slice_index_or, slice_set, refl, ap, sym, ◌∙◌, subst, inl, inr, arith}
use Rattle.std.specs.Prelude.{ℤ, pos, negsuc, ◌+ℤ◌, ◌*ℤ◌}
use Rattle.std.specs.Int.{w16, cast_unsigned, cast_signed}
use Rattle.std.proofs.Common.{w64, SFits}
use Rattle.std.proofs.lemmas.Int.{ints}
use Rattle.std.proofs.lemmas.Bool.{cases_eq}
use Rattle.std.proofs.lemmas.List.{get_or-set_other}
use Rattle.std.proofs.lemmas.Grind.{get_or-set_at}
use Rattle.ring_laws.specs.Matrix.{sum}
use Rattle.ring_laws.specs.Ring.{integers}
use Rattle.ring_laws.proofs.Integers.{integers_laws}
use Rattle.ring_laws.proofs.Reader.{ring, reads}
use Rattle.tc_ring.specs.Surds.{surd_integer}
use Rattle.channel_rep.specs.Tables.{SurdTable}
use Rattle.label_laws.specs.Congruence.{IsCongruent}
use Rattle.label_laws.specs.Folds.{weighed}
use Rattle.label_laws.specs.Sparse.{AreWeights}
use Rattle.label_laws.proofs.Congruences.{congruent_self, congruent-times}
use Rattle.label_laws.proofs.SparseSums.{congruent_cast, sum_to, part_more, weighed_to}
use Rattle.quick_label.specs.Columns.{StoredColumns, HoldsColumns, run_sum}
use Rattle.quick_label.specs.Letters.{HeldWeights}
use Rattle.quick_label.specs.Sums.{IsSumWithRun, IsSumOfColumn}
use Rattle.quick_label.proofs.WeightRows.{cut, cut-plus}

-- ---- runs
add_zero : (s : ℤ) → s ≡ s +ℤ pos 0
add_zero s = ring integers_laws (s ∷ []) (search reads depth 30 parts 0 fits 10000) tt

add_last : (s x y : ℤ) → (s +ℤ x) +ℤ y ≡ s +ℤ (x +ℤ y)
add_last s x y = ring integers_laws (s ∷ x ∷ y ∷ []) (search reads depth 30 parts 0 fits 10000) tt

-- no number
pub no_run : (rows : List ℕ) (values : List ℤ) (start end : ℕ) (weights : List ℕ) (before : ℕ) → end ≤ start → IsSumWithRun rows values start end weights before before
unfolding sum
no_run rows values start end weights before low w s are h =
    let none : end - start ≡ 0 = omega arith in
    subst (λ z. IsCongruent (2 ^ 64) z before) (add_zero s ∙ ap (λ n. s +ℤ run_sum w rows values start n) (sym none)) h

-- a number of sixteen bits, taken as one without sign
pub narrow_cast : (z : ℤ) (r : ℕ) → SFits w16 z → r ≡ cast_unsigned w64 (cast_signed w64 (cast_unsigned w64 z)) → IsCongruent (2 ^ 64) z r
narrow_cast (pos n) r fits e = congruent_cast (pos n) r (omega (arith, ints)) (omega (arith, ints)) e
narrow_cast (negsuc n) r fits e = congruent_cast (negsuc n) r (omega (arith, ints)) (omega (arith, ints)) e

-- a number more
pub run_longer : (rows : List ℕ) (values : List ℤ) (start k : ℕ) (weights : List ℕ) (before sum_before row value : ℕ) → start ≤ k → row ≡ slice_index rows k → row < length weights
    → IsCongruent (2 ^ 64) (slice_index_or values k (pos 0)) value → IsSumWithRun rows values start k weights before sum_before
    → IsSumWithRun rows values start (k + 1) weights before ((sum_before + slice_index weights row * value % 2 ^ 64) % 2 ^ 64)
unfolding sum
run_longer rows values start k weights before sum_before row value order at low is so_far w s are h =
    let count : k + 1 - start ≡ suc (k - start) = omega arith in
    let here : start + (k - start) ≡ k = omega arith in
    let x = run_sum w rows values start (k - start) in
    let y = w (slice_index rows (start + (k - start))) *ℤ slice_index_or values (start + (k - start)) (pos 0) in
    let product : IsCongruent (2 ^ 64) y (slice_index weights row * value % 2 ^ 64) =
    cut _ _ (congruent-times (2 ^ 64) _ _ (slice_index weights row) value
    (subst (λ r. IsCongruent (2 ^ 64) (w r) (slice_index weights row)) (at ∙ ap (slice_index rows) (sym here)) (are row low))
    (subst (λ j. IsCongruent (2 ^ 64) (slice_index_or values j (pos 0)) value) (sym here) is)) in
    subst (λ z. IsCongruent (2 ^ 64) z ((sum_before + slice_index weights row * value % 2 ^ 64) % 2 ^ 64))
    (add_last s x y ∙ ap (λ n. s +ℤ run_sum w rows values start n) (sym count))
    (cut-plus (s +ℤ x) y sum_before (slice_index weights row * value % 2 ^ 64) (so_far w s are h) product)

-- ---- columns
no_rows : pos 0 ≡ pos 0 +ℤ pos 0
no_rows = refl

row_more : (x y p q r s : ℤ) → (x +ℤ y) +ℤ p *ℤ q +ℤ r *ℤ s ≡ (x +ℤ p *ℤ q) +ℤ (y +ℤ r *ℤ s)
row_more x y p q r s = ring integers_laws (x ∷ y ∷ p ∷ q ∷ r ∷ s ∷ []) (search reads depth 30 parts 0 fits 10000) tt

-- a column's sum is that of its whole parts and that of its parts of √2
module _ (w m : SurdTable) (column : ℕ) where
  whole_sum : ℕ → ℤ
  whole_sum n = sum integers n (λ row. (w 0 row).b *ℤ (m row column).a)

  part_sum : ℕ → ℤ
  part_sum n = sum integers n (λ row. (w 0 row).a *ℤ (m row column).b)

  in_two : (n : ℕ) → (sum_to w m column n).b ≡ whole_sum n +ℤ part_sum n
  unfolding sum surd_integer whole_sum part_sum
  in_two zero = no_rows
  in_two (suc n) =
      part_more (sum_to w m column n) (w 0 n) (m n column)
      ∙ ap (λ x. x +ℤ (w 0 n).b *ℤ (m n column).a +ℤ (w 0 n).a *ℤ (m n column).b) (in_two n)
      ∙ row_more (whole_sum n) (part_sum n) (w 0 n).b (m n column).a (w 0 n).a (m n column).b

pub weighed_in_two : (size : ℕ) (w m : SurdTable) (column : ℕ)
    → weighed size w m column ≡ sum integers size (λ row. (w 0 row).b *ℤ (m row column).a) +ℤ sum integers size (λ row. (w 0 row).a *ℤ (m row column).b)
unfolding whole_sum part_sum
weighed_in_two size w m column = weighed_to size w m column ∙ in_two w m column size

start_zero : (x : ℤ) → pos 0 +ℤ x ≡ x
start_zero x = ring integers_laws (x ∷ []) (search reads depth 30 parts 0 fits 10000) tt

-- the sum of a column is right where those of its two runs are
pub column_is : (columns : StoredColumns) (weights : HeldWeights) (column : ℕ) (start middle end whole sum : ℕ) (rows : List ℕ) (values : List ℤ) (wholes parts : List ℕ)
    → rows ≡ columns.rows → values ≡ columns.values → wholes ≡ weights.wholes → parts ≡ weights.parts → length weights.wholes ≡ columns.size → length parts ≡ length wholes
    → start ≡ slice_index columns.starts (2 * column) → middle ≡ slice_index columns.starts (2 * column + 1) → end ≡ slice_index columns.starts (2 * column + 2)
    → IsSumWithRun rows values start middle wholes 0 whole → IsSumWithRun rows values middle end parts whole sum → IsSumOfColumn columns weights column sum
column_is columns weights column start middle end whole sum rows values wholes parts er ev ew ep long even es em ee with_wholes with_parts size w m held are low =
    let size_is : length wholes ≡ size = ap length ew ∙ long ∙ held.as_many in
    let A = run_sum (λ row. (w 0 row).b) rows values start (middle - start) in
    let B = run_sum (λ row. (w 0 row).a) rows values middle (end - middle) in
    let one : A ≡ _ = (λ i. run_sum (λ row. (w 0 row).b) (er i) (ev i) (es i) (em i - es i)) ∙ held.wholes column low (λ row. (w 0 row).b) in
    let two : B ≡ _ = (λ i. run_sum (λ row. (w 0 row).a) (er i) (ev i) (em i) (ee i - em i)) ∙ held.parts column low (λ row. (w 0 row).a) in
    let first = with_wholes (λ row. (w 0 row).b) (pos 0)
    (λ row l. subst (λ xs. IsCongruent (2 ^ 64) (w 0 row).b (slice_index xs row)) (sym ew) (are.wholes row (omega (arith, size_is)))) (congruent_self (2 ^ 64) 0) in
    let both = with_parts (λ row. (w 0 row).a) (pos 0 +ℤ A)
    (λ row l. subst (λ xs. IsCongruent (2 ^ 64) (w 0 row).a (slice_index xs row)) (sym ep) (are.parts row (omega (arith, size_is, even)))) first in
    subst (λ z. IsCongruent (2 ^ 64) z sum) ((λ i. start_zero A i +ℤ B) ∙ (λ i. one i +ℤ two i) ∙ sym (weighed_in_two size w m column)) both

-- ---- all columns
-- the sums of the first columns
abbrev pub AreSumsOfFirst : ℕ → StoredColumns → HeldWeights → List ℕ → Type 0
AreSumsOfFirst first columns weights sums = (c : ℕ) → c < first → IsSumOfColumn columns weights c (slice_index sums c)

-- with one column more
pub column_more : (column : ℕ) (columns : StoredColumns) (weights : HeldWeights) (sums : List ℕ) (sum : ℕ) → column < length sums → IsSumOfColumn columns weights column sum
    → AreSumsOfFirst column columns weights sums → AreSumsOfFirst (column + 1) columns weights (slice_set sums column sum)
column_more column columns weights sums sum room new before k l = elim (cases_eq k column) [
  | inl e ↦ subst (λ j. IsSumOfColumn columns weights j (slice_index (slice_set sums column sum) k)) (sym e) (subst (IsSumOfColumn columns weights column) (sym (get_or-set_at sums column k sum 0 e room)) new)
  | inr d ↦ subst (IsSumOfColumn columns weights k) (sym (get_or-set_other sums column k sum 0 d)) (before k (omega arith))
]
