-- The fold of a label's numbers as a whole number, not cut.
use Rattle.std.proofs.Common.{◌≡◌, ℕ, zero, suc, ◌+◌, ◌-◌, ◌*◌, ◌^◌, ◌<◌, List, [], ◌∷◌, ◌++◌, length, map, refl, ap, sym, ◌∙◌, arith}
use Rattle.std.specs.Prelude.{ℤ, pos, neg_ℤ, ◌+ℤ◌, ◌*ℤ◌, fold}
use Rattle.std.proofs.Math.Nat.{pow-zero, pow-succ'}
use Rattle.std.specs.List.{AllByRecursion}
use Rattle.std.proofs.lemmas.List.{length-map}
use Rattle.std.proofs.lemmas.List.Sums.{fold-append}
use Rattle.ring_laws.specs.Matrix.{sum, product}
use Rattle.ring_laws.proofs.Sums.{sum_cong, mul-sum}
use Rattle.ring_laws.proofs.Integers.{integers_laws}
use Rattle.ring_laws.proofs.Reader.{ring, reads}
use Rattle.tc_ring.specs.Surds.{Surd, surd, surds, surd_integer, surd_plus, surd_times}
use Rattle.tc_ring.proofs.Surds.{surds_laws, surd_times_assoc, same_surd}
use Rattle.channel_rep.specs.Tables.{SurdTable}
use Rattle.coset_label.specs.Labels.{Column, Label, numbers_from, column_of}
use Rattle.coset_label.specs.Tags.{residue, fold_number, joined, label_numbers}
use Rattle.coset_label.proofs.ColumnSums.{numbers_from-end}
use Rattle.label_laws.specs.Congruence.{IsCongruent}
use Rattle.label_laws.specs.Folds.{weight, weights, weighed}
use Rattle.label_laws.proofs.Congruences.{congruent_self, congruent-plus, congruent-times, congruent_cut, congruent_again, congruent_residue}

-- the fold of numbers, not cut
abbrev pub whole_fold : ℤ → List ℤ → ℤ
whole_fold F xs = fold (λ f v. f *ℤ pos 1000003 +ℤ v) F xs

-- from 0 on
abbrev pub whole_sum : List ℤ → ℤ
whole_sum xs = whole_fold (pos 0) xs

-- numbers, each times a power for its place from the back
abbrev pub placed : ℕ → List ℤ → ℤ
placed power [] = pos 0
placed power (x ∷ xs) = x *ℤ pos (power ^ length xs) +ℤ placed power xs

-- an empty list leaves the first number alone
no_factor : (f : ℤ) → f ≡ f *ℤ pos 1 +ℤ pos 0
no_factor f = ring integers_laws (f ∷ []) (search reads depth 30 parts 0 fits 10000) tt

-- ---- the fold
-- modulo 2^38 it is the tag's
pub whole_fold_is : (F : ℤ) (f : ℕ) (xs : Column) → IsCongruent (2 ^ 38) F f → IsCongruent (2 ^ 38) (whole_fold F xs) (fold fold_number f xs)
whole_fold_is F f [] h = h
whole_fold_is F f (v ∷ xs) h =
    let next = congruent-plus (2 ^ 38) (F *ℤ pos 1000003) v (f * 1000003) (residue v) (congruent-times (2 ^ 38) F (pos 1000003) f 1000003 h (congruent_self (2 ^ 38) 1000003)) (congruent_residue v) in
    whole_fold_is (F *ℤ pos 1000003 +ℤ v) (fold_number f v) xs
    (congruent_again (2 ^ 38) (F *ℤ pos 1000003 +ℤ v) (f * 1000003 + residue v) (fold_number f v) (congruent_cut (2 ^ 38) (f * 1000003 + residue v)) next)

behind_step : (f v b p r : ℤ) → (f *ℤ b +ℤ v) *ℤ p +ℤ r ≡ f *ℤ (b *ℤ p) +ℤ ((pos 0 *ℤ b +ℤ v) *ℤ p +ℤ r)
behind_step f v b p r = ring integers_laws (f ∷ v ∷ b ∷ p ∷ r ∷ []) (search reads depth 30 parts 0 fits 10000) tt

-- what stands before a list comes to that times a power of the base
pub whole_fold-behind : (F : ℤ) (xs : Column) → whole_fold F xs ≡ F *ℤ pos (1000003 ^ length xs) +ℤ whole_sum xs
whole_fold-behind F [] = no_factor F ∙ ap (λ p. F *ℤ pos p +ℤ pos 0) (sym (pow-zero 1000003))
whole_fold-behind F (v ∷ xs) =
    let power = 1000003 ^ length xs in
    whole_fold-behind (F *ℤ pos 1000003 +ℤ v) xs
    ∙ behind_step F v (pos 1000003) (pos power) (whole_sum xs)
    ∙ sym (λ i. F *ℤ pos (pow-succ' 1000003 (length xs) i) +ℤ whole_fold-behind (pos 0 *ℤ pos 1000003 +ℤ v) xs i)

-- one list behind another
pub whole_fold-append : (F : ℤ) (xs ys : Column) → whole_fold F (xs ++ ys) ≡ whole_fold (whole_fold F xs) ys
whole_fold-append F xs ys = fold-append (λ f v. f *ℤ pos 1000003 +ℤ v) F xs ys

negative_step : (f b v : ℤ) → neg_ℤ f *ℤ b +ℤ neg_ℤ v ≡ neg_ℤ (f *ℤ b +ℤ v)
negative_step f b v = ring integers_laws (f ∷ b ∷ v ∷ []) (search reads depth 30 parts 0 fits 10000) tt

-- the negatives fold to the negative
pub whole_fold-negative : (F : ℤ) (xs : Column) → whole_fold (neg_ℤ F) (map neg_ℤ xs) ≡ neg_ℤ (whole_fold F xs)
whole_fold-negative F [] = refl
whole_fold-negative F (v ∷ xs) = ap (λ f. whole_fold f (map neg_ℤ xs)) (negative_step F (pos 1000003) v) ∙ whole_fold-negative (F *ℤ pos 1000003 +ℤ v) xs

-- ---- a column's fold is its sum by weights
row_step : (b f x y : ℤ) → (f *ℤ b +ℤ x) *ℤ b +ℤ y ≡ (b *ℤ b *ℤ f +ℤ pos 0) +ℤ (pos 1 *ℤ y +ℤ b *ℤ x)
row_step b f x y = ring integers_laws (b ∷ f ∷ x ∷ y ∷ []) (search reads depth 30 parts 0 fits 10000) tt

scaled_part : (c x y : ℤ) → c *ℤ y ≡ c *ℤ y +ℤ pos 0 *ℤ x
scaled_part c x y = ring integers_laws (c ∷ x ∷ y ∷ []) (search reads depth 30 parts 0 fits 10000) tt

scaled_whole : (c x y : ℤ) → c *ℤ x ≡ c *ℤ x +ℤ pos 2 *ℤ (pos 0 *ℤ y)
scaled_whole c x y = ring integers_laws (c ∷ x ∷ y ∷ []) (search reads depth 30 parts 0 fits 10000) tt

-- the square of the base
abbrev square : ℕ
square = 1000003 * 1000003

-- a row's weight, where there is one row more
weight-more : (size r : ℕ) → r < size → weight (suc size) r ≡ surd_times (surd_integer (pos square)) (weight size r)
unfolding surd_times surd_integer
weight-more size r l =
    same_surd (ap pos whole ∙ scaled_whole (pos square) (pos power) (pos (power * 1000003))) (ap pos part ∙ scaled_part (pos square) (pos power) (pos (power * 1000003)))
  where
    power : ℕ
    power = 1000003 ^ (2 * (size - 1 - r))

    places : 2 * (suc size - 1 - r) ≡ suc (suc (2 * (size - 1 - r)))
    places = omega arith

    whole : 1000003 ^ (2 * (suc size - 1 - r)) ≡ square * power
    whole = ap (λ k. 1000003 ^ k) places ∙ pow-succ' 1000003 (suc (2 * (size - 1 - r))) ∙ ap (λ p. 1000003 * p) (pow-succ' 1000003 (2 * (size - 1 - r))) ∙ (omega arith)

    part : 1000003 ^ (2 * (suc size - 1 - r)) * 1000003 ≡ square * (power * 1000003)
    part = ap (λ p. p * 1000003) whole ∙ (omega arith)

-- the last row's
weight-last : (size : ℕ) → weight (suc size) size ≡ surd (pos 1) (pos 1000003)
weight-last size = same_surd (ap pos one) (ap pos (ap (λ p. p * 1000003) one))
  where
    none : 2 * (suc size - 1 - size) ≡ 0
    none = omega arith

    one : 1000003 ^ (2 * (suc size - 1 - size)) ≡ 1
    one = ap (λ k. 1000003 ^ k) none ∙ pow-zero 1000003

-- the parts of √2 of the two summands
summands : (s x : Surd) → (surd_plus (surd_times (surd_integer (pos square)) s) (surd_times (surd (pos 1) (pos 1000003)) x)).b ≡ (s.b *ℤ pos 1000003 +ℤ x.a) *ℤ pos 1000003 +ℤ x.b
unfolding surd_plus surd_times surd_integer
summands s x = ring integers_laws (s.a ∷ s.b ∷ x.a ∷ x.b ∷ []) (search reads depth 30 parts 0 fits 10000) tt

-- the sum by weights
weighed_cells : (size : ℕ) (cell : ℕ → Surd) → (sum surds size (λ r. surd_times (weight size r) (cell r))).b ≡ whole_sum (numbers_from cell 0 size)
unfolding sum surd_integer
weighed_cells zero cell = refl
weighed_cells (suc size) cell =
    ap (λ (s : Surd). s.b) (λ i. surd_plus (rows i) (surd_times (weight-last size i) (cell size)))
    ∙ summands (sum surds size (λ r. surd_times (weight size r) (cell r))) (cell size)
    ∙ ap (λ f. (f *ℤ pos 1000003 +ℤ (cell size).a) *ℤ pos 1000003 +ℤ (cell size).b) (weighed_cells size cell)
    ∙ sym (ap whole_sum (numbers_from-end cell 0 size) ∙ whole_fold-append (pos 0) (numbers_from cell 0 size) _ ∙ (λ i. (whole_sum (numbers_from cell 0 size) *ℤ pos 1000003 +ℤ (cell (at i)).a) *ℤ pos 1000003 +ℤ (cell (at i)).b))
  where
    at : 0 + size ≡ size
    at = omega arith

    rows : sum surds size (λ r. surd_times (weight (suc size) r) (cell r)) ≡ surd_times (surd_integer (pos square)) (sum surds size (λ r. surd_times (weight size r) (cell r)))
    rows =
        sum_cong surds_laws size _ _ (λ r l. ap (λ w. surd_times w (cell r)) (weight-more size r l) ∙ surd_times_assoc (surd_integer (pos square)) (weight size r) (cell r))
        ∙ sym (mul-sum surds_laws size (surd_integer (pos square)) (λ r. surd_times (weight size r) (cell r)))

-- of a table's column
pub weighed_is : (n : ℕ) (m : SurdTable) (column : ℕ) → weighed (4 ^ n) (weights (4 ^ n)) m column ≡ whole_sum (column_of n m column)
unfolding product
weighed_is n m column = weighed_cells (4 ^ n) (λ row. m row column)

-- ---- a label's fold is one over its columns
joined_step : (f b x p r : ℤ) → (f *ℤ b +ℤ x) *ℤ p +ℤ r ≡ f *ℤ (b *ℤ p) +ℤ (x *ℤ p +ℤ r)
joined_step f b x p r = ring integers_laws (f ∷ b ∷ x ∷ p ∷ r ∷ []) (search reads depth 30 parts 0 fits 10000) tt

-- columns of one length
pub joined_is : (long : ℕ) (F : ℤ) (columns : List Column) → AllByRecursion (λ column. length column ≡ long) columns
    → whole_fold F (joined columns) ≡ F *ℤ pos ((1000003 ^ long) ^ length columns) +ℤ placed (1000003 ^ long) (map whole_sum columns)
joined_is long F [] all = no_factor F ∙ ap (λ p. F *ℤ pos p +ℤ pos 0) (sym (pow-zero (1000003 ^ long)))
joined_is long F (column ∷ columns) all =
    let base = 1000003 ^ long in
    let power = base ^ length columns in
    whole_fold-append F column (joined columns)
    ∙ joined_is long (whole_fold F column) columns all.1
    ∙ ap (λ f. f *ℤ pos power +ℤ placed base (map whole_sum columns)) (whole_fold-behind F column ∙ ap (λ k. F *ℤ pos (1000003 ^ k) +ℤ whole_sum column) all.0)
    ∙ joined_step F (pos base) (whole_sum column) (pos power) (placed base (map whole_sum columns))
    ∙ (λ i. F *ℤ pos (sym (pow-succ' base (length columns)) i) +ℤ (whole_sum column *ℤ pos (base ^ sym (length-map columns whole_sum) i) +ℤ placed base (map whole_sum columns)))

-- the fold of a label's numbers
pub label_is : (long : ℕ) (label : Label) → AllByRecursion (λ column. length column ≡ long) label.columns
    → IsCongruent (2 ^ 38) (pos label.exponent *ℤ pos ((1000003 ^ long) ^ length label.columns) +ℤ placed (1000003 ^ long) (map whole_sum label.columns)) (fold fold_number 0 (label_numbers label))
label_is long label all =
    let h = whole_fold_is (pos 0) 0 (label_numbers label) (congruent_self (2 ^ 38) 0) in
    (h.0, h.1 ∙ ap (λ z. z +ℤ h.0 *ℤ pos (2 ^ 38)) (ap (λ f. whole_fold f (joined label.columns)) (first (pos label.exponent) (pos 1000003)) ∙ joined_is long (pos label.exponent) label.columns all))
  where
    first : (k b : ℤ) → pos 0 *ℤ b +ℤ k ≡ k
    first k b = ring integers_laws (k ∷ b ∷ []) (search reads depth 30 parts 0 fits 10000) tt
