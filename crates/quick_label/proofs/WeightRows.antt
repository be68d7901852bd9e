-- Weights of rows modulo 2^64.
use Rattle.std.proofs.Common.{◌≡◌, ◌≢◌, ℕ, zero, suc, ◌+◌, ◌-◌, ◌*◌, ◌%◌, ◌^◌, ◌<◌, ◌≤◌, Bool, true, false, nat_lt, List, [], ◌∷◌, ◌++◌, length, take, drop, get_or, slice_index, inl, inr, refl, ap, sym, ◌∙◌, subst, arith, pow-suc, get_or-set_same, get_or-set_other}
use Rattle.std.specs.Prelude.{ℤ, pos, neg_ℤ, ◌+ℤ◌, ◌*ℤ◌, if◌then◌else◌}
use Rattle.std.proofs.Math.ListN.{set}
use Rattle.std.proofs.Math.Seq.{take-append_seam}
use Rattle.std.proofs.lemmas.Grind.{get_or_default_zero}
use Rattle.std.proofs.lemmas.Int.{ints}
use Rattle.std.proofs.lemmas.Bool.{cases_eq, ltb-true, ltb-false}
use Rattle.std.proofs.lemmas.Nat.{pow-add}
use Rattle.ring_laws.proofs.Integers.{integers_laws}
use Rattle.ring_laws.proofs.Reader.{ring, reads}
use Rattle.tc_ring.specs.Surds.{Surd, surd, surd_plus, surd_times, surd_negative, surd_integer, root2_surd, zero_surd}
use Rattle.tc_ring.proofs.Surds.{root2_surd-times}
use Rattle.pauli_basis.specs.Products.{product_code, commute, anti_sign}
use Rattle.channel_rep.specs.Tables.{SurdTable, signed, turned_over}
use Rattle.channel_rep.proofs.Squares.{column_of_place}
use Rattle.label_laws.specs.Congruence.{IsCongruent}
use Rattle.label_laws.specs.Folds.{rotated_weights, weight}
use Rattle.label_laws.specs.Totals.{turned_whole}
use Rattle.label_laws.proofs.Congruences.{congruent_self, congruent-plus, congruent-times, congruent_again, congruent_cut}
use Rattle.label_laws.specs.Sparse.{AreWeights}
use Rattle.quick_label.specs.Blocks.{rows_behind}
use Rattle.quick_label.specs.Letters.{IsWeight, IsDigitWeight}
use Rattle.quick_label.specs.Numbers.{digit_weight, high_weights, low_weights}
use Rattle.quick_label.specs.Weights.{before_letter}

-- ---- numbers of 64 bits
pub cut : (z : ℤ) (f : ℕ) → IsCongruent (2 ^ 64) z f → IsCongruent (2 ^ 64) z (f % 2 ^ 64)
cut z f h = congruent_again (2 ^ 64) z f (f % 2 ^ 64) (congruent_cut (2 ^ 64) f) h

pub cut-plus : (x y : ℤ) (f g : ℕ) → IsCongruent (2 ^ 64) x f → IsCongruent (2 ^ 64) y g → IsCongruent (2 ^ 64) (x +ℤ y) ((f + g) % 2 ^ 64)
cut-plus x y f g h k = cut (x +ℤ y) (f + g) (congruent-plus (2 ^ 64) x y f g h k)

pub cut-times : (x : ℕ) (f k : ℕ) → IsCongruent (2 ^ 64) (pos x) f → IsCongruent (2 ^ 64) (pos (x * k)) (f * k % 2 ^ 64)
cut-times x f k h = cut (pos (x * k)) (f * k) (congruent-times (2 ^ 64) (pos x) (pos k) f k h (congruent_self (2 ^ 64) k))

turned_more : (y q m : ℤ) → neg_ℤ (y +ℤ q *ℤ m) +ℤ m ≡ neg_ℤ y +ℤ (pos 1 +ℤ neg_ℤ q) *ℤ m
turned_more y q m = ring integers_laws (y ∷ q ∷ m ∷ []) (search reads depth 30 parts 0 fits 10000) tt

rest_is : (g : ℕ) → g < 2 ^ 64 → pos (2 ^ 64 - g) ≡ neg_ℤ (pos g) +ℤ pos (2 ^ 64)
rest_is g l = omega (arith, ints)

pub cut-minus : (x y : ℤ) (f g : ℕ) → g < 2 ^ 64 → IsCongruent (2 ^ 64) x f → IsCongruent (2 ^ 64) y g → IsCongruent (2 ^ 64) (x +ℤ neg_ℤ y) ((f + (2 ^ 64 - g)) % 2 ^ 64)
cut-minus x y f g l h k =
    cut-plus x (neg_ℤ y) f (2 ^ 64 - g) h
    (pos 1 +ℤ neg_ℤ k.0, rest_is g l ∙ ap (λ (z : ℤ). neg_ℤ z +ℤ pos (2 ^ 64)) k.1 ∙ turned_more y k.0 (pos (2 ^ 64)))

-- ---- weights times √2
doubled_is : (x : ℤ) → x +ℤ x ≡ pos 2 *ℤ x
doubled_is x = ring integers_laws (x ∷ []) (search reads depth 30 parts 0 fits 10000) tt

pub root2_weight : (x : Surd) (whole part : ℕ) → IsWeight x whole part → IsWeight (surd_times root2_surd x) part ((whole + whole) % 2 ^ 64)
root2_weight x whole part h = record {
  b = subst (λ (s : Surd). IsCongruent (2 ^ 64) s.b part) (sym (root2_surd-times x)) h.a;
  a = subst (λ (s : Surd). IsCongruent (2 ^ 64) s.a ((whole + whole) % 2 ^ 64)) (sym (root2_surd-times x))
      (subst (λ (z : ℤ). IsCongruent (2 ^ 64) z ((whole + whole) % 2 ^ 64)) (doubled_is x.b) (cut-plus x.b x.b whole whole h.b h.b));
}

-- ---- weights before a rotation
turned_b : (s : Bool) (x y : Surd) → x.b +ℤ turned_whole s y.b ≡ (surd_plus x (signed s y)).b
unfolding surd_plus signed surd_negative
turned_b true x y = refl
turned_b false x y = refl

turned_a : (s : Bool) (x y : Surd) → x.a +ℤ turned_whole s y.a ≡ (surd_plus x (signed s y)).a
unfolding surd_plus signed surd_negative
turned_a true x y = refl
turned_a false x y = refl

pub commuting_weight : (n p row : ℕ) (w : SurdTable) (whole part : ℕ) → true ≡ commute n p row → IsWeight (w 0 row) whole part → IsWeight (rotated_weights n false p w 0 row) part ((whole + whole) % 2 ^ 64)
commuting_weight n p row w whole part e h =
    subst (λ (b : Bool). IsWeight (if b then surd_times root2_surd (w 0 row) else surd_plus (w 0 row) (signed (turned_over false (anti_sign n p row)) (w 0 (product_code p row)))) part ((whole + whole) % 2 ^ 64)) e
    (root2_weight (w 0 row) whole part h)

pub turned_weight : (n p row : ℕ) (w : SurdTable) (whole part : ℕ) → false ≡ commute n p row
    → IsCongruent (2 ^ 64) ((w 0 row).b +ℤ turned_whole (anti_sign n p row) (w 0 (product_code p row)).b) whole
    → IsCongruent (2 ^ 64) ((w 0 row).a +ℤ turned_whole (anti_sign n p row) (w 0 (product_code p row)).a) part
    → IsWeight (rotated_weights n false p w 0 row) whole part
turned_weight n p row w whole part e h k =
    subst (λ (b : Bool). IsWeight (if b then surd_times root2_surd (w 0 row) else surd_plus (w 0 row) (signed (turned_over false (anti_sign n p row)) (w 0 (product_code p row)))) whole part) e
    (record {
      b = subst (λ (z : ℤ). IsCongruent (2 ^ 64) z whole) (turned_b (anti_sign n p row) (w 0 row) (w 0 (product_code p row))) h;
      a = subst (λ (z : ℤ). IsCongruent (2 ^ 64) z part) (turned_a (anti_sign n p row) (w 0 row) (w 0 (product_code p row))) k;
    })

-- ---- rows one after the other
-- one row more, upwards
pub rows_below : (P : ℕ → ℕ → ℕ → Type 0) (wholes parts : List ℕ) (row whole part : ℕ) → row < length wholes → row < length parts → P row whole part
    → ((k : ℕ) → k < row → P k (slice_index wholes k) (slice_index parts k))
    → (k : ℕ) → k < row + 1 → P k (slice_index (set wholes row whole) k) (slice_index (set parts row part) k)
rows_below P wholes parts row whole part l l' here before k h = elim (cases_eq k row) [
  | inl e ↦ subst (λ (j : ℕ). P j (slice_index (set wholes row whole) j) (slice_index (set parts row part) j)) (sym e)
      (subst (λ (v : ℕ). P row v (slice_index (set parts row part) row)) (sym (get_or-set_same wholes row whole 0 l))
      (subst (P row whole) (sym (get_or-set_same parts row part 0 l')) here))
  | inr d ↦ subst (λ (v : ℕ). P k v (slice_index (set parts row part) k)) (sym (get_or-set_other wholes row k whole 0 d))
      (subst (P k (slice_index wholes k)) (sym (get_or-set_other parts row k part 0 d)) (before k (omega arith)))
]

-- and downwards
pub rows_from : (P : ℕ → ℕ → ℕ → Type 0) (wholes parts : List ℕ) (row end whole part : ℕ) → row < length wholes → row < length parts → P row whole part
    → ((k : ℕ) → row < k → k < end → P k (slice_index wholes k) (slice_index parts k))
    → (k : ℕ) → row ≤ k → k < end → P k (slice_index (set wholes row whole) k) (slice_index (set parts row part) k)
rows_from P wholes parts row end whole part l l' here behind k low h = elim (cases_eq k row) [
  | inl e ↦ subst (λ (j : ℕ). P j (slice_index (set wholes row whole) j) (slice_index (set parts row part) j)) (sym e)
      (subst (λ (v : ℕ). P row v (slice_index (set parts row part) row)) (sym (get_or-set_same wholes row whole 0 l))
      (subst (P row whole) (sym (get_or-set_same parts row part 0 l')) here))
  | inr d ↦ subst (λ (v : ℕ). P k v (slice_index (set parts row part) k)) (sym (get_or-set_other wholes row k whole 0 d))
      (subst (P k (slice_index wholes k)) (sym (get_or-set_other parts row k part 0 d)) (behind k (omega arith) h))
]

-- ---- the fold
pub base_twice : (k : ℕ) → 1000003 ^ (2 * k) * 1000003 * 1000003 ≡ 1000003 ^ (2 * suc k)
base_twice k = let e : 2 * suc k ≡ suc (suc (2 * k)) = omega arith in sym (ap (λ (j : ℕ). 1000003 ^ j) e ∙ pow-suc 1000003 (suc (2 * k)) ∙ ap (λ (x : ℕ). x * 1000003) (pow-suc 1000003 (2 * k)))

pub fold_weight : (size row count power : ℕ) → size - 1 - row ≡ count → IsCongruent (2 ^ 64) (pos (1000003 ^ (2 * count))) power → IsWeight (weight size row) (power * 1000003 % 2 ^ 64) power
fold_weight size row count power e h =
    subst (λ (j : ℕ). IsWeight (surd (pos (1000003 ^ (2 * j))) (pos (1000003 ^ (2 * j) * 1000003))) (power * 1000003 % 2 ^ 64) power) (sym e)
    (record { b = cut-times (1000003 ^ (2 * count)) power 1000003 h; a = h })

-- one row more of the fold
pub fold_step : (wholes parts : List ℕ) (row power size : ℕ) → 0 < row → row ≤ length wholes → length parts ≡ length wholes → size ≡ length wholes
    → IsCongruent (2 ^ 64) (pos (1000003 ^ (2 * (length wholes - row)))) power
    → ((k : ℕ) → row ≤ k → k < length wholes → IsWeight (weight (length wholes) k) (slice_index wholes k) (slice_index parts k))
    → IsCongruent (2 ^ 64) (pos (1000003 ^ (2 * (size - (row - 1))))) (power * 1000003 % 2 ^ 64 * 1000003 % 2 ^ 64)
    × ((k : ℕ) → row - 1 ≤ k → k < size → IsWeight (weight size k) (slice_index (set wholes (row - 1) (power * 1000003 % 2 ^ 64)) k) (slice_index (set parts (row - 1) power) k))
fold_step wholes parts row power size some low long e h before = (next, λ k m l. subst (λ (n : ℕ). IsWeight (weight n k) (slice_index (set wholes (row - 1) (power * 1000003 % 2 ^ 64)) k) (slice_index (set parts (row - 1) power) k)) (sym e) (done k m (omega arith)))
  where
    one_more : size - (row - 1) ≡ suc (length wholes - row)
    one_more = omega arith

    next : IsCongruent (2 ^ 64) (pos (1000003 ^ (2 * (size - (row - 1))))) (power * 1000003 % 2 ^ 64 * 1000003 % 2 ^ 64)
    next =
        subst (λ (j : ℕ). IsCongruent (2 ^ 64) (pos (1000003 ^ (2 * j))) (power * 1000003 % 2 ^ 64 * 1000003 % 2 ^ 64)) (sym one_more)
        (subst (λ (x : ℕ). IsCongruent (2 ^ 64) (pos x) (power * 1000003 % 2 ^ 64 * 1000003 % 2 ^ 64)) (base_twice (length wholes - row))
        (cut-times (1000003 ^ (2 * (length wholes - row)) * 1000003) (power * 1000003 % 2 ^ 64) 1000003 (cut-times (1000003 ^ (2 * (length wholes - row))) power 1000003 h)))

    done : (k : ℕ) → row - 1 ≤ k → k < length wholes → IsWeight (weight (length wholes) k) (slice_index (set wholes (row - 1) (power * 1000003 % 2 ^ 64)) k) (slice_index (set parts (row - 1) power) k)
    done =
        rows_from (λ k v s. IsWeight (weight (length wholes) k) v s) wholes parts (row - 1) (length wholes) (power * 1000003 % 2 ^ 64) power (omega arith) (omega arith)
        (fold_weight (length wholes) (row - 1) (length wholes - row) power (omega arith) h) (λ k m l. before k (omega arith) l)

-- ---- digits
-- a place of digits by a shift
pub shifted_place : (d : ℕ) → 1 * 2 ^ (8 * d) ≡ 256 ^ d
shifted_place d = omega (arith, by d)
  where
    by : (d : ℕ) → 2 ^ (8 * d) ≡ 256 ^ d
    by zero = refl
    by (suc d) =
        let e : 8 * suc d ≡ 8 * d + 8 = omega arith in
        ap (λ (k : ℕ). 2 ^ k) e ∙ pow-add 2 (8 * d) 8 ∙ ap (λ (x : ℕ). x * 256) (by d) ∙ sym (pow-suc 256 d)

pub shift_congruent : (d : ℕ) → IsCongruent (2 ^ 64) (pos (256 ^ d)) (1 * 2 ^ (8 * d) % 2 ^ 64)
shift_congruent d = subst (λ (x : ℕ). IsCongruent (2 ^ 64) (pos x) (1 * 2 ^ (8 * d) % 2 ^ 64)) (shifted_place d) (congruent_cut (2 ^ 64) (1 * 2 ^ (8 * d)))

-- eight digits and more are a multiple of 2^64
pub far_congruent : (d : ℕ) → 8 ≤ d → IsCongruent (2 ^ 64) (pos (256 ^ d)) 0
far_congruent d l =
    let e : d ≡ (d - 8) + 8 = omega arith in
    subst (λ (x : ℕ). IsCongruent (2 ^ 64) (pos x) 0) (omega (arith, ap (λ (k : ℕ). 256 ^ k) e ∙ pow-add 256 (d - 8) 8))
    (subst (IsCongruent (2 ^ 64) (pos (256 ^ (d - 8) * 2 ^ 64 + 0))) (column_of_place (2 ^ 64) (256 ^ (d - 8)) 0 (omega arith)) (congruent_cut (2 ^ 64) (256 ^ (d - 8) * 2 ^ 64 + 0)))

nothing_weighs : (whole part : ℕ) → part ≡ 0 → whole ≡ part * 11 % 2 ^ 64 → IsWeight zero_surd whole part
unfolding surd_integer
nothing_weighs whole part e is =
    let none : whole ≡ 0 = is ∙ ap (λ (x : ℕ). x * 11 % 2 ^ 64) e in
    record { b = subst (IsCongruent (2 ^ 64) (pos 0)) (sym none) (congruent_self (2 ^ 64) 0); a = subst (IsCongruent (2 ^ 64) (pos 0)) (sym e) (congruent_self (2 ^ 64) 0) }

digit_weighs : (power whole part : ℕ) → IsCongruent (2 ^ 64) (pos power) part → whole ≡ part * 11 % 2 ^ 64 → IsWeight (digit_weight power) whole part
digit_weighs power whole part h is =
    let turn : power * 11 ≡ 11 * power = omega arith in
    record { b = subst (λ (x : ℕ). IsCongruent (2 ^ 64) (pos x) whole) turn (subst (IsCongruent (2 ^ 64) (pos (power * 11))) (sym is) (cut-times power part 11 h)); a = h }

pub high_weight : (behind whole part : ℕ) → IsDigitWeight behind 8 whole part → IsWeight (if nat_lt behind 8 then zero_surd else digit_weight (256 ^ (behind - 8))) whole part
high_weight behind whole part h = by (nat_lt behind 8) refl
  where
    by : (b : Bool) → nat_lt behind 8 ≡ b → IsWeight (if b then zero_surd else digit_weight (256 ^ (behind - 8))) whole part
    by true e = nothing_weighs whole part (h.below (ltb-true behind 8 e)) h.eleven
    by false e = digit_weighs (256 ^ (behind - 8)) whole part (h.place (ltb-false behind 8 e)) h.eleven

pub low_weight : (behind whole part : ℕ) → IsDigitWeight behind 0 whole part → IsWeight (if nat_lt behind 8 then digit_weight (256 ^ behind) else zero_surd) whole part
low_weight behind whole part h = by (nat_lt behind 8) refl
  where
    none_less : behind - 0 ≡ behind
    none_less = omega arith

    by : (b : Bool) → nat_lt behind 8 ≡ b → IsWeight (if b then digit_weight (256 ^ behind) else zero_surd) whole part
    by true e = digit_weighs (256 ^ behind) whole part (subst (λ (d : ℕ). IsCongruent (2 ^ 64) (pos (256 ^ d)) part) none_less (h.place (omega arith))) h.eleven
    by false e = nothing_weighs whole part (h.above (ltb-false behind 8 e)) h.eleven

-- the digit of a row that has one of the eight
pub inside_digit : (behind last whole part : ℕ) → last ≤ behind → behind < last + 8 → part ≡ 1 * 2 ^ (8 * (behind - last)) % 2 ^ 64 → whole ≡ part * 11 % 2 ^ 64 → IsDigitWeight behind last whole part
inside_digit behind last whole part low high e is = record {
  below = λ h. absurd (omega arith);
  place = λ h. subst (IsCongruent (2 ^ 64) (pos (256 ^ (behind - last)))) (sym e) (shift_congruent (behind - last));
  above = λ h. absurd (omega arith);
  eleven = is;
}

-- and of one that has none
pub outside_digit : (behind last whole part : ℕ) → (last ≤ behind → last + 8 ≤ behind) → part ≡ 0 → whole ≡ part * 11 % 2 ^ 64 → IsDigitWeight behind last whole part
outside_digit behind last whole part far e is = record {
  below = λ h. e;
  place = λ h. let l = far h in subst (IsCongruent (2 ^ 64) (pos (256 ^ (behind - last)))) (sym e) (far_congruent (behind - last) (omega arith));
  above = λ h. e;
  eleven = is;
}

-- the weights of all rows
pub high_digits : (size : ℕ) (span : List Bool) (behind wholes parts : List ℕ) → ((row : ℕ) → row < size → slice_index behind row ≡ rows_behind size span row)
    → ((row : ℕ) → row < size → IsDigitWeight (slice_index behind row) 8 (slice_index wholes row) (slice_index parts row)) → AreWeights size (high_weights size span) wholes parts
high_digits size span behind wholes parts same h = record { wholes = λ row l. (at row l).b; parts = λ row l. (at row l).a }
  where
    at : (row : ℕ) → row < size → IsWeight (high_weights size span 0 row) (slice_index wholes row) (slice_index parts row)
    at row l = high_weight (rows_behind size span row) _ _ (subst (λ (d : ℕ). IsDigitWeight d 8 (slice_index wholes row) (slice_index parts row)) (same row l) (h row l))

pub low_digits : (size : ℕ) (span : List Bool) (behind wholes parts : List ℕ) → ((row : ℕ) → row < size → slice_index behind row ≡ rows_behind size span row)
    → ((row : ℕ) → row < size → IsDigitWeight (slice_index behind row) 0 (slice_index wholes row) (slice_index parts row)) → AreWeights size (low_weights size span) wholes parts
low_digits size span behind wholes parts same h = record { wholes = λ row l. (at row l).b; parts = λ row l. (at row l).a }
  where
    at : (row : ℕ) → row < size → IsWeight (low_weights size span 0 row) (slice_index wholes row) (slice_index parts row)
    at row l = low_weight (rows_behind size span row) _ _ (subst (λ (d : ℕ). IsDigitWeight d 0 (slice_index wholes row) (slice_index parts row)) (same row l) (h row l))

-- ---- before a letter
pub not_once : (n p divisions : ℕ) (w : SurdTable) → divisions ≢ 1 → rotated_weights n false p w ≡ before_letter n p divisions w
not_once n p zero w d = refl
not_once n p (suc zero) w d = absurd (d refl)
not_once n p (suc (suc divisions)) w d = refl

-- ---- lists
-- what is read at a place
pub read_is : (xs ys : List ℕ) (i r : ℕ) → xs ≡ ys → i < length ys → r ≡ get_or xs i r → r ≡ slice_index ys i
read_is xs ys i r same l e = e ∙ ap (λ (zs : List ℕ). get_or zs i r) same ∙ get_or_default_zero ys i r l

-- what a whole list is after a call that writes it
pub given_back : (len : ℕ) (old new : List ℕ) → length new ≡ len → take len (new ++ drop (length new) old) ≡ new
given_back len old new e = ap (λ (k : ℕ). take k (new ++ drop (length new) old)) (sym e) ∙ take-append_seam new (drop (length new) old)

pub put_back : (size : ℕ) (w : SurdTable) (len other : ℕ) (old old' wholes parts : List ℕ) → length wholes ≡ len → length parts ≡ other → AreWeights size w wholes parts
    → AreWeights size w (take len (wholes ++ drop (length wholes) old)) (take other (parts ++ drop (length parts) old'))
put_back size w len other old old' wholes parts e e' h =
    subst (λ (xs : List ℕ). AreWeights size w xs (take other (parts ++ drop (length parts) old'))) (sym (given_back len old wholes e))
    (subst (AreWeights size w wholes) (sym (given_back other old' parts e')) h)

-- the weight that stands at a place
pub weight_at : (size : ℕ) (w : SurdTable) (wholes parts wholes' parts' : List ℕ) → AreWeights size w wholes parts → wholes' ≡ wholes → parts' ≡ parts → (row : ℕ) → row < size
    → IsWeight (w 0 row) (slice_index wholes' row) (slice_index parts' row)
weight_at size w wholes parts wholes' parts' are e f row l = record {
  b = subst (λ (xs : List ℕ). IsCongruent (2 ^ 64) (w 0 row).b (slice_index xs row)) (sym e) (are.wholes row l);
  a = subst (λ (xs : List ℕ). IsCongruent (2 ^ 64) (w 0 row).a (slice_index xs row)) (sym f) (are.parts row l);
}
