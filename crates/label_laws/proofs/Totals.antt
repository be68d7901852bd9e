-- A label's fold is a sum over the columns of its table, and its tag comes of that sum.
use Rattle.std.proofs.Common.{◌≡◌, ℕ, zero, suc, ◌+◌, ◌-◌, ◌*◌, ◌/◌, ◌%◌, ◌^◌, ◌<◌, ◌≤◌, Bool, true, false, List, [], ◌∷◌, length, map, refl, ap, sym, ◌∙◌, subst, arith, add-one}
use Rattle.std.specs.Prelude.{ℤ, pos, neg_ℤ, ◌+ℤ◌, ◌*ℤ◌, fold, All, if◌then◌else◌}
use Rattle.std.specs.Cmp.Lexicographic.{slice_cmp}
use Rattle.std.specs.Ordering.{int_cmp}
use Rattle.std.specs.List.{AllByRecursion, sum_by, range_with_len}
use Rattle.std.specs.List.Sorted.{IsStrictlySortedBy}
use Rattle.std.proofs.Math.Nat.{mod-mod}
use Rattle.std.proofs.lemmas.List.{length-map}
use Rattle.std.proofs.lemmas.List.Elements.{recursion_from_All}
use Rattle.std.proofs.lemmas.List.FromFn.{length-map-range_with_len, get_or-map-range_with_len, sum_by-map-range_with_len_more}
use Rattle.std.proofs.lemmas.List.Sorted.{All-permutation, length_permutation}
use Rattle.ring_laws.specs.Ring.{integers}
use Rattle.ring_laws.specs.Matrix.{sum}
use Rattle.ring_laws.proofs.Sums.{sum_cong, mul-sum}
use Rattle.ring_laws.proofs.Integers.{integers_laws}
use Rattle.ring_laws.proofs.Reader.{ring, reads}
use Rattle.channel_rep.specs.Tables.{SurdTable, ScaledTable, IsCircuitChannel}
use Rattle.channel_rep.proofs.Independent.{circuit_independent}
use Rattle.tc_ring.specs.Surds.{Surd}
use Rattle.coset_label.specs.Labels.{Column, Label, numbers_from, column_of, leads_negative, with_fixed_sign, fixed_columns, IsLabelOf}
use Rattle.coset_label.specs.Tags.{residue, fold_number, label_numbers, tag_of}
use Rattle.label_laws.specs.Congruence.{IsCongruent}
use Rattle.label_laws.specs.Folds.{weights, weighed}
use Rattle.label_laws.specs.Ranks.{rank, summed_by_place}
use Rattle.label_laws.specs.Totals.{place_of, turned_whole, column_power, placed_folds, label_total, tag_from}
use Rattle.label_laws.proofs.Congruences.{congruent_self, congruent-plus, congruent-times, congruent_residue, congruent-half, congruent_summand, one_remainder}
use Rattle.label_laws.proofs.Wholes.{whole_sum, placed, weighed_is, whole_fold-negative, label_is}
use Rattle.label_laws.proofs.Ranks.{summed_in_any_order}
use Rattle.label_laws.proofs.Rising.{columns_total, fixed, label_rises}

-- ---- lengths
length-numbers : (cell : ℕ → Surd) (row count : ℕ) → length (numbers_from cell row count) ≡ 2 * count
length-numbers cell row zero = refl
length-numbers cell row (suc count) = omega (arith, length-numbers cell (row + 1) count)

length-fixed : (column : Column) → length (with_fixed_sign column) ≡ length column
length-fixed column = by (leads_negative column)
  where
    by : (b : Bool) → length (if b then map neg_ℤ column else column) ≡ length column
    by true = length-map column neg_ℤ
    by false = refl

-- each column of a table's list has two numbers a row
fixed_lengths : (n : ℕ) (m : SurdTable) → All (λ column. length column ≡ 2 * 4 ^ n) (fixed_columns n m)
fixed_lengths n m k d l =
    let long = length-map-range_with_len (fixed n m) 0 (4 ^ n) in
    let at : k < 4 ^ n = omega arith in
    ap length (get_or-map-range_with_len (fixed n m) 0 (4 ^ n) k k d at (omega arith)) ∙ length-fixed (column_of n m k) ∙ length-numbers (λ row. m row k) 0 (4 ^ n)

-- ---- sums
-- sums of numbers by their places
placed_is : (power : ℕ) (columns : List Column) (size : ℕ) → length columns ≡ size
    → IsCongruent (2 ^ 38) (placed power (map whole_sum columns)) (summed_by_place (λ x. residue (whole_sum x)) (λ i. power ^ (size - 1 - i)) columns)
placed_is power [] size e = congruent_self (2 ^ 38) 0
placed_is power (x ∷ columns) size e =
    subst (λ z. IsCongruent (2 ^ 38) z (summed_by_place (λ x. residue (whole_sum x)) (λ i. power ^ (size - 1 - i)) (x ∷ columns)))
    (λ i. whole_sum x *ℤ pos (power ^ first i) +ℤ placed power (map whole_sum columns))
    (congruent-plus (2 ^ 38) (whole_sum x *ℤ pos (power ^ (size - 1 - 0))) (placed power (map whole_sum columns)) _ _
    (congruent-times (2 ^ 38) (whole_sum x) (pos (power ^ (size - 1 - 0))) _ _ (congruent_residue (whole_sum x)) (congruent_self (2 ^ 38) (power ^ (size - 1 - 0))))
    (subst (IsCongruent (2 ^ 38) (placed power (map whole_sum columns))) later (placed_is power columns (size - 1) (omega arith))))
  where
    first : size - 1 - 0 ≡ length (map whole_sum columns)
    first = omega (arith, length-map columns whole_sum)

    later : summed_by_place (λ x. residue (whole_sum x)) (λ i. power ^ (size - 1 - 1 - i)) columns ≡ summed_by_place (λ x. residue (whole_sum x)) (λ i. power ^ (size - 1 - suc i)) columns
    later = ap (λ (q : ℕ → ℕ). summed_by_place (λ x. residue (whole_sum x)) q columns) (λ t i. power ^ down i t)
      where
        down : (i : ℕ) → size - 1 - 1 - i ≡ size - 1 - suc i
        down i = omega arith

-- a sum over a table's columns
columns_sum : (f : ℕ → Column) (g : Column → ℕ) (h : ℕ → ℤ) (size : ℕ) → ((c : ℕ) → c < size → IsCongruent (2 ^ 38) (h c) (g (f c))) → IsCongruent (2 ^ 38) (sum integers size h) (sum_by g (map f (range_with_len 0 size)))
unfolding sum
columns_sum f g h zero each = congruent_self (2 ^ 38) 0
columns_sum f g h (suc size) each =
    subst (IsCongruent (2 ^ 38) (sum integers size h +ℤ h size))
    (sym (ap (λ k. sum_by g (map f (range_with_len 0 k))) (sym (add-one size)) ∙ sum_by-map-range_with_len_more g f 0 size size (omega arith)))
    (congruent-plus (2 ^ 38) (sum integers size h) (h size) _ _ (columns_sum f g h size (λ c l. each c (omega arith))) (each size (omega arith)))

-- the fold of a column with its sign fixed
fixed_sum : (column : Column) → whole_sum (with_fixed_sign column) ≡ turned_whole (leads_negative column) (whole_sum column)
fixed_sum column = by (leads_negative column)
  where
    by : (b : Bool) → whole_sum (if b then map neg_ℤ column else column) ≡ turned_whole b (whole_sum column)
    by true = whole_fold-negative (pos 0) column
    by false = refl

-- ---- the tag
-- where the columns of a label rise, its fold is a sum over the columns of the table
pub total_of_rising : (n : ℕ) (m : ScaledTable) (label : Label) → IsLabelOf n m label → IsStrictlySortedBy (slice_cmp int_cmp) label.columns
    → IsCongruent (2 ^ 38) (label_total n m) (fold fold_number 0 (label_numbers label))
total_of_rising n m label is rises =
    congruent_summand (2 ^ 38) (pos m.exponent *ℤ pos (power ^ 4 ^ n)) (placed power (map whole_sum label.columns)) (placed_folds n m.table (weighed (4 ^ n) (weights (4 ^ n)) m.table)) _ by_places
    (placed_is power label.columns (4 ^ n) many)
    (subst (IsCongruent (2 ^ 38) (placed_folds n m.table (weighed (4 ^ n) (weights (4 ^ n)) m.table)))
    (sym (summed_in_any_order columns_total (λ x. residue (whole_sum x)) (λ i. power ^ (4 ^ n - 1 - i)) label.columns (fixed_columns n m.table) rises is.columns))
    (columns_sum (fixed n m.table) (λ x. residue (whole_sum x) * power ^ (4 ^ n - 1 - rank (slice_cmp int_cmp) (fixed_columns n m.table) x)) _ (4 ^ n) one))
    (subst (λ z. IsCongruent (2 ^ 38) z (fold fold_number 0 (label_numbers label)))
    (λ i. pos (is.exponent i) *ℤ pos (power ^ many i) +ℤ placed power (map whole_sum label.columns))
    (label_is (2 * 4 ^ n) label lengths))
  where
    power : ℕ
    power = column_power n

    by_places : ℕ
    by_places = summed_by_place (λ x. residue (whole_sum x)) (λ i. power ^ (4 ^ n - 1 - i)) label.columns

    lengths : AllByRecursion (λ column. length column ≡ 2 * 4 ^ n) label.columns
    lengths = recursion_from_All (λ column. length column ≡ 2 * 4 ^ n) label.columns (All-permutation (λ column. length column ≡ 2 * 4 ^ n) (fixed_columns n m.table) label.columns is.columns (fixed_lengths n m.table))

    many : length label.columns ≡ 4 ^ n
    many = length_permutation (fixed_columns n m.table) label.columns is.columns ∙ length-map-range_with_len (fixed n m.table) 0 (4 ^ n)

    one : (c : ℕ) → c < 4 ^ n
        → IsCongruent (2 ^ 38) (turned_whole (leads_negative (column_of n m.table c)) (weighed (4 ^ n) (weights (4 ^ n)) m.table c) *ℤ pos (power ^ (4 ^ n - 1 - place_of n m.table c)))
        (residue (whole_sum (fixed n m.table c)) * power ^ (4 ^ n - 1 - place_of n m.table c))
    one c l =
        congruent-times (2 ^ 38) _ (pos (power ^ (4 ^ n - 1 - place_of n m.table c))) _ _
        (subst (λ z. IsCongruent (2 ^ 38) z (residue (whole_sum (fixed n m.table c))))
        (fixed_sum (column_of n m.table c) ∙ ap (turned_whole (leads_negative (column_of n m.table c))) (sym (weighed_is n m.table c)))
        (congruent_residue (whole_sum (fixed n m.table c))))
        (congruent_self (2 ^ 38) (power ^ (4 ^ n - 1 - place_of n m.table c)))

-- so is that of a circuit's label
pub total_of_label : (n : ℕ) → 0 < n → n ≤ 3 → (m : ScaledTable) → IsCircuitChannel n m → (label : Label) → IsLabelOf n m label
    → IsCongruent (2 ^ 38) (label_total n m) (fold fold_number 0 (label_numbers label))
total_of_label n some few m circuit label is = total_of_rising n m label is (label_rises n m label (circuit_independent n some few m circuit) is)

-- a fold of numbers is cut
fold_cut : (f : ℕ) (xs : Column) → f % 2 ^ 38 ≡ f → fold fold_number f xs % 2 ^ 38 ≡ fold fold_number f xs
fold_cut f [] e = e
fold_cut f (v ∷ xs) e = fold_cut (fold_number f v) xs (mod-mod (f * 1000003 + residue v) (2 ^ 38))

-- so the tag comes of any number that is congruent to the sum
pub tag_of_total : (n : ℕ) → 0 < n → n ≤ 3 → (m : ScaledTable) → IsCircuitChannel n m → (label : Label) → IsLabelOf n m label
    → (f : ℕ) → IsCongruent (2 ^ 38) (label_total n m) f → tag_of label ≡ tag_from f
tag_of_total n some few m circuit label is f sum =
    ap (λ g. (g + g / 2 ^ 19) % 2 ^ 38)
    (sym (fold_cut 0 (label_numbers label) refl)
    ∙ one_remainder (2 ^ 38) (label_total n m) (fold fold_number 0 (label_numbers label)) f (total_of_label n some few m circuit label is) sum)

-- ---- halves
turned_twice : (b : Bool) (x : ℤ) → turned_whole b (pos 2 *ℤ x) ≡ pos 2 *ℤ turned_whole b x
turned_twice true x = ring integers_laws (x ∷ []) (search reads depth 30 parts 0 fits 10000) tt
turned_twice false x = refl

times_assoc : (x y z : ℤ) → x *ℤ y *ℤ z ≡ x *ℤ (y *ℤ z)
times_assoc x y z = ring integers_laws (x ∷ y ∷ z ∷ []) (search reads depth 30 parts 0 fits 10000) tt

-- twice the folds come to twice the sum
pub placed_twice : (n : ℕ) (m : SurdTable) (folds halves : ℕ → ℤ) → ((c : ℕ) → c < 4 ^ n → folds c ≡ pos 2 *ℤ halves c) → placed_folds n m folds ≡ pos 2 *ℤ placed_folds n m halves
placed_twice n m folds halves h =
    sum_cong integers_laws (4 ^ n) _ _ (λ c l.
    ap (λ z. turned_whole (leads_negative (column_of n m c)) z *ℤ pos (column_power n ^ (4 ^ n - 1 - place_of n m c))) (h c l)
    ∙ ap (λ z. z *ℤ pos (column_power n ^ (4 ^ n - 1 - place_of n m c))) (turned_twice (leads_negative (column_of n m c)) (halves c))
    ∙ times_assoc (pos 2) (turned_whole (leads_negative (column_of n m c)) (halves c)) (pos (column_power n ^ (4 ^ n - 1 - place_of n m c))))
    ∙ sym (mul-sum integers_laws (4 ^ n) (pos 2) (λ c. turned_whole (leads_negative (column_of n m c)) (halves c) *ℤ pos (column_power n ^ (4 ^ n - 1 - place_of n m c))))

-- so half of the sum in 64 bits is the sum of the halves in 63
pub placed-half : (n : ℕ) (m : SurdTable) (folds halves : ℕ → ℤ) (f : ℕ) → ((c : ℕ) → c < 4 ^ n → folds c ≡ pos 2 *ℤ halves c)
    → IsCongruent (2 ^ 64) (placed_folds n m folds) f → IsCongruent (2 ^ 63) (placed_folds n m halves) (f / 2)
placed-half n m folds halves f h is = congruent-half (placed_folds n m halves) f (subst (λ z. IsCongruent (2 ^ 64) z f) (placed_twice n m folds halves h) is)
