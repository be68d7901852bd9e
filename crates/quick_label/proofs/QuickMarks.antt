-- From the sums of a word's columns to the mark of a letter before it.
use Rattle.std.proofs.Common.{◌≡◌, ◌≢◌, ℕ, zero, suc, ◌+◌, ◌-◌, ◌*◌, ◌^◌, ◌<◌, ◌≤◌, Bool, true, false, true≢false, List, [], ◌∷◌, slice_index, slice_index_or, refl, ap, sym, ◌∙◌, subst, inl, inr, arith}
use Rattle.std.specs.Prelude.{ℤ, pos, ◌+ℤ◌, ◌*ℤ◌, nat_abs, int_lt, nat_lt, if◌then◌else◌}
use Rattle.std.proofs.Math.Nat.{pow-zero, pow-succ'}
use Rattle.std.proofs.lemmas.Bool.{cases_lt, cond-true, lt-ltb}
use Rattle.std.proofs.lemmas.Int.{ints}
use Rattle.ring_laws.proofs.Integers.{integers_laws}
use Rattle.ring_laws.proofs.Reader.{ring, reads}
use Rattle.channel_rep.specs.Cells.{ChannelGrid, scaled, IsReduced}
use Rattle.channel_rep.specs.Rows.{rotated}
use Rattle.channel_rep.specs.Tables.{SurdTable, ScaledTable, IsBuiltOf}
use Rattle.channel_rep.specs.Words.{IsWord}
use Rattle.coset_label.specs.Labels.{HasLeastExponent}
use Rattle.coset_label.specs.Tags.{tag_of}
use Rattle.coset_label.specs.Words.{word_steps}
use Rattle.coset_words.specs.Marks.{IsMarkOf}
use Rattle.coset_words.specs.declared.mark.Mark.{Mark}
use Rattle.label_laws.specs.Congruence.{IsCongruent}
use Rattle.label_laws.specs.Folds.{weights, weighed}
use Rattle.label_laws.specs.Fronts.{halved}
use Rattle.label_laws.specs.Totals.{column_power, placed_folds, tag_from}
use Rattle.word_laws.specs.Divisions.{IsDivisionCount}
use Rattle.quick_label.specs.FrontRooms.{AreFrontSums, AreHalves, AreLedBy}
use Rattle.quick_label.specs.Fronts.{IsFront}
use Rattle.quick_label.specs.Numbers.{column_number, high_weights, low_weights}
use Rattle.quick_label.specs.Places.{AreColumnNumbers, AreLeadRows, TellSigns, ArePlaces}
use Rattle.quick_label.specs.Rooms.{HasSmallBlocks}
use Rattle.quick_label.specs.Spans.{AreSpan}
use Rattle.quick_label.specs.Tables.{IsPackable, IsLeadRow}
use Rattle.quick_label.specs.Weights.{before_letter, doubled}
use Rattle.quick_label.proofs.DigitOrder.{number_sign}
use Rattle.quick_label.proofs.FrontNumbers.{number_before}
use Rattle.quick_label.proofs.FrontsExist.{HasFront, front_exists, tag_of_front}
use Rattle.quick_label.proofs.Leads.{number_lead}

-- ---- halves
-- what is doubled where there is a division
if_divided : (d : ℕ) (z : ℤ) → doubled d z ≡ (if nat_lt 0 d then pos 2 *ℤ z else z)
if_divided zero z = refl
if_divided (suc d) z = sym (cond-true (nat_lt 0 (suc d)) (pos 2 *ℤ z) z (lt-ltb 0 (suc d) (omega arith)))

module _ (n p divisions : ℕ) (a b : ScaledTable) (front : IsFront n p divisions a b) (span : List Bool) (packable : IsPackable n span 8 5 b.table)
    (small : nat_lt 0 divisions ≡ true → IsPackable n span 5 4 b.table) (blocks : HasSmallBlocks (4 ^ n) span) where
  abbrev pub high_before : ℕ → ℤ
  high_before column = weighed (4 ^ n) (before_letter n p divisions (high_weights (4 ^ n) span)) a.table column

  abbrev pub low_before : ℕ → ℤ
  low_before column = weighed (4 ^ n) (before_letter n p divisions (low_weights (4 ^ n) span)) a.table column

  -- the sums before the letter make the numbers behind it
  pub halves_of_front : (folds highs lows : List ℕ) → AreFrontSums n p divisions span a.table folds highs lows
      → AreHalves (4 ^ n) highs lows (nat_lt 0 divisions) high_before low_before (column_number (4 ^ n) span b.table)
  halves_of_front folds highs lows sums column l =
      let number = number_before n p front.letter a b front.same divisions front.few front.exponent span packable (λ some. small (lt-ltb 0 divisions some)) column l (blocks.rows column l) in
      record {
        is_high = sums.high_sums column l;
        is_low = sums.low_sums column l;
        high_fits = number.0;
        low_fits = number.1;
        sum = number.2 ∙ if_divided divisions (column_number (4 ^ n) span b.table column);
      }

-- ---- leads
-- each number is below some power of 256
below_power : (m : ℕ) → m < 256 ^ m
below_power zero = let e = pow-zero 256 in omega arith
below_power (suc m) = let e = pow-succ' 256 m in let l = below_power m in omega arith

-- so one other than 0 has a highest digit
module _ (m : ℕ) (some : 0 < m) where
  top_below : (k : ℕ) → m < 256 ^ k → (behind : ℕ) × (256 ^ behind ≤ m) × (m < 256 ^ (behind + 1))
  top_below zero l = let e = pow-zero 256 in absurd (omega arith)
  top_below (suc k) l = elim (cases_lt m (256 ^ k)) [
    | inl less ↦ top_below k less
    | inr more ↦ let next : suc k ≡ k + 1 = omega arith in (k, more, subst (λ j. m < 256 ^ j) next l)
  ]

  top_digit : (behind : ℕ) × (256 ^ behind ≤ m) × (m < 256 ^ (behind + 1))
  top_digit = top_below m (below_power m)

some_size : (z : ℤ) → z ≢ pos 0 → 0 < 2 * nat_abs z
some_size (pos zero) d = absurd (d refl)
some_size z d = omega (arith, ints)

module _ (n : ℕ) (span : List Bool) (m : SurdTable) (packable : IsPackable n span 8 5 m) (numbers : List ℤ) (are : AreColumnNumbers n span m numbers) where
  -- the rows that the numbers tell are the columns' lead rows
  pub leads_of_numbers : (leads : List ℕ) → AreLedBy (4 ^ n) span numbers leads → AreLeadRows n m leads
  leads_of_numbers leads led column l =
      let number = slice_index_or numbers column (pos 0) in
      let here = led column l in
      let top = top_digit (2 * nat_abs number) (some_size number here.0) in
      let e = are column l in
      let lead = number_lead n span m packable column l top.0 (subst (λ z. 256 ^ top.0 ≤ 2 * nat_abs z) e top.1) (subst (λ z. 2 * nat_abs z < 256 ^ (top.0 + 1)) e top.2) in
      subst (IsLeadRow (4 ^ n) m column) (sym (here.1 top.0 top.1 top.2 lead.0)) lead.1

  -- and the numbers' signs those of the columns
  pub signs_of_numbers : TellSigns n m numbers
  signs_of_numbers column l = ap (λ z. int_lt z (pos 0)) (are column l) ∙ sym (number_sign n span m packable column l)

-- ---- the mark
-- a reduced channel has its least exponent
pub least_exponent : (n : ℕ) (m : ChannelGrid) → m.qubits ≡ n → IsReduced m → HasLeastExponent n (scaled m)
least_exponent n m e (inl none) = inl none
least_exponent n m e (inr odd) = inr (record {
  row = odd.row;
  column = odd.column;
  row_below = subst (λ k. odd.row < 4 ^ k) e odd.row_below;
  column_below = subst (λ k. odd.column < 4 ^ k) e odd.column_below;
  odd = odd.odd;
})

-- the bound on the exponent, by whether the channel is divided
bound_of : (divides : Bool) (exponent : ℕ) → exponent ≤ (if divides then 5 else 6) → (exponent ≤ 6) × (divides ≡ true → exponent ≤ 5)
bound_of true exponent l = (omega arith, λ _. l)
bound_of false exponent l = (l, λ e. absurd (true≢false (sym e)))

no_first : (x : ℤ) → pos 0 +ℤ x ≡ x
no_first x = ring integers_laws (x ∷ []) (search reads depth 30 parts 0 fits 10000) tt

module _ (n : ℕ) (some : 0 < n) (few : n ≤ 3) (word : List ℕ) (p : ℕ) (is : IsWord n (p ∷ word)) (a : ScaledTable) (built : IsBuiltOf n (word_steps word) a)
    (least : HasLeastExponent n a) (divisions : ℕ) (count : IsDivisionCount n (rotated n false p a.table) divisions) (span : List Bool) (are : AreSpan n (p ∷ word) span)
    (low : a.exponent + 1 - divisions ≤ (if nat_lt 0 divisions then 5 else 6)) (blocks : HasSmallBlocks (4 ^ n) span) where
  front : HasFront n word p divisions span a
  front = front_exists n some few word p is a built least divisions count span are

  b : ScaledTable
  b = front.b

  exponent_is : a.exponent + 1 - divisions ≡ b.exponent
  unfolding b
  exponent_is = let e = front.front.exponent in omega arith

  bounds : (b.exponent ≤ 6) × (nat_lt 0 divisions ≡ true → b.exponent ≤ 5)
  bounds = bound_of (nat_lt 0 divisions) b.exponent (subst (λ k. k ≤ (if nat_lt 0 divisions then 5 else 6)) exponent_is low)

  packable : IsPackable n span 8 5 b.table
  unfolding b
  packable = front.packable bounds.0

  -- the sums, numbers, lead rows and places that the code finds, by what each step says of them
  module _ (folds highs lows : List ℕ) (sums : AreFrontSums n p divisions span a.table folds highs lows) (numbers : List ℤ)
      (numbered : (x y z : ℕ → ℤ) → AreHalves (4 ^ n) highs lows (nat_lt 0 divisions) x y z → (column : ℕ) → column < 4 ^ n → slice_index_or numbers column (pos 0) ≡ z column)
      (leads : List ℕ) (led : AreLedBy (4 ^ n) span numbers leads) (places : List ℕ)
      (placed : (m : SurdTable) → IsPackable n span 8 5 m → AreColumnNumbers n span m numbers → AreLeadRows n m leads → ArePlaces n m places) (sum : ℕ)
      (summed : (m : SurdTable) (z : ℕ → ℤ) → TellSigns n m numbers → ArePlaces n m places → ((column : ℕ) → column < 4 ^ n → IsCongruent (2 ^ 64) (z column) (slice_index folds column))
      → IsCongruent (2 ^ 64) (pos 0 +ℤ placed_folds n m z) sum) where
    numbers_are : AreColumnNumbers n span b.table numbers
    unfolding b
    numbers_are =
        numbered (high_before n p divisions a b front.front span packable (λ e. front.packable_small (bounds.1 e)) blocks)
        (low_before n p divisions a b front.front span packable (λ e. front.packable_small (bounds.1 e)) blocks) (column_number (4 ^ n) span b.table)
        (halves_of_front n p divisions a b front.front span packable (λ e. front.packable_small (bounds.1 e)) blocks folds highs lows sums)

    places_are : ArePlaces n b.table places
    places_are = placed b.table packable numbers_are (leads_of_numbers n span b.table packable numbers numbers_are leads led)

    tag_is : tag_of front.label ≡ tag_from (b.exponent * column_power n ^ 4 ^ n + halved divisions sum)
    unfolding b
    tag_is =
        tag_of_front n p divisions some few a b front.front front.circuit front.label front.is sum
        (subst (λ x. IsCongruent (2 ^ 64) x sum) (no_first (placed_folds n b.table (weighed (4 ^ n) (before_letter n p divisions (weights (4 ^ n))) a.table)))
        (summed b.table (weighed (4 ^ n) (before_letter n p divisions (weights (4 ^ n))) a.table) (signs_of_numbers n span b.table packable numbers numbers_are) places_are sums.fold_sums))

    -- make the mark
    pub mark_is : (mark : Mark) → mark.exponent ≡ a.exponent + 1 - divisions → mark.tag ≡ tag_from ((a.exponent + 1 - divisions) * column_power n ^ 4 ^ n + halved divisions sum) → IsMarkOf n (p ∷ word) mark
    unfolding b
    mark_is mark exponent tag = record {
      label = front.label;
      labelled = record { channel = b; built = front.built; is = front.is };
      exponent = exponent ∙ exponent_is ∙ sym front.is.exponent;
      tag = tag ∙ ap (λ k. tag_from (k * column_power n ^ 4 ^ n + halved divisions sum)) exponent_is ∙ sym tag_is;
    }
