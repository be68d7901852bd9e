-- The size of a column's number tells how many rows of its block stand behind its lead row.
use Rattle.std.proofs.Common.{◌≡◌, ◌≢◌, ℕ, zero, suc, ◌+◌, ◌*◌, ◌^◌, ◌<◌, ◌≤◌, Bool, List, [], ◌∷◌, ◌++◌, length, refl, ap, sym, ◌∙◌, subst, arith, inl, inr, ◌⊎◌, lit<}
use Rattle.std.specs.Prelude.{ℤ, pos, negsuc, neg_ℤ, ◌+ℤ◌, ◌*ℤ◌, ◌<ℤ◌, nat_abs, reverse, slice_index}
use Rattle.std.proofs.lemmas.Bool.{cases_Bool, cases_eq, cases_lt}
use Rattle.std.proofs.lemmas.Int.{ints}
use Rattle.std.proofs.lemmas.Grind.{reverse_onto}
use Rattle.std.proofs.lemmas.List.{length-reverse, length-append}
use Rattle.std.proofs.Math.ListN.{get_or-append}
use Rattle.std.proofs.Math.Seq.{get_or-append_seam}
use Rattle.std.proofs.Math.Nat.{mul-le-mul_right, pow-le-pow_right, one-le-pow}
use Rattle.ring_laws.proofs.Integers.{integers_laws}
use Rattle.ring_laws.proofs.Reader.{ring, reads}
use Rattle.tc_ring.specs.Surds.{Surd, surd_integer, zero_surd}
use Rattle.tc_ring.proofs.Surds.{same_surd}
use Rattle.channel_rep.specs.Tables.{SurdTable}
use Rattle.label_laws.specs.Digits.{signed_number, AreSignedDigits}
use Rattle.label_laws.proofs.Digits.{signed_between}
use Rattle.quick_label.specs.Blocks.{in_block, block_rows}
use Rattle.quick_label.specs.Numbers.{digit, column_number}
use Rattle.quick_label.specs.Tables.{SurdUpTo, IsPackable, IsLeadRow}
use Rattle.quick_label.proofs.DigitOrder.{digits_rank, digit-zero}
use Rattle.quick_label.proofs.Graded.{digits_of, rows_of, digits_yes, digits_no, rows_yes, rows_no, digits-length, digits_all}

-- ---- powers
-- between a power and the next there is one place
powers_meet : (i j x : ℕ) → 256 ^ i ≤ x → x < 256 ^ (j + 1) → i ≤ j
powers_meet i j x low high = elim (cases_lt j i) [
  | inl l ↦ absurd (let more : 256 ^ (j + 1) ≤ 256 ^ i = pow-le-pow_right {n = 256} (lit< tt) (add_one_le l) in omega arith)
  | inr l ↦ l
]
  where
    add_one_le : j < i → j + 1 ≤ i
    add_one_le l = omega arith

-- ---- the first digit
no_front : (x p : ℤ) → pos 0 *ℤ p +ℤ x ≡ x
no_front x p = ring integers_laws (x ∷ p ∷ []) (search reads depth 30 parts 0 fits 10000) tt

-- a digit other than 0 makes the number larger than its power
first_above : (d : ℤ) (p : ℕ) (x : ℤ) → d ≢ pos 0 → (pos 2 *ℤ x) <ℤ pos p → neg_ℤ (pos p) <ℤ (pos 2 *ℤ x) → p ≤ 2 * nat_abs (d *ℤ pos p +ℤ x)
first_above (pos zero) p x d up low = absurd (d refl)
first_above (pos (suc k)) p x d up low =
    let e : pos (suc k) *ℤ pos p ≡ pos (suc k * p) = refl in
    let one : 1 * p ≤ suc k * p = mul-le-mul_right p (omega arith) in
    omega (arith, ints)
first_above (negsuc k) p x d up low =
    let e : negsuc k *ℤ pos p ≡ neg_ℤ (pos (suc k * p)) = refl in
    let one : 1 * p ≤ suc k * p = mul-le-mul_right p (omega arith) in
    omega (arith, ints)

-- so the number tells how many digits stand behind it
first_place : (d : ℤ) (digits : List ℤ) → AreSignedDigits 256 (d ∷ digits) → d ≢ pos 0 → (behind : ℕ)
    → 256 ^ behind ≤ 2 * nat_abs (signed_number 256 (d ∷ digits)) → 2 * nat_abs (signed_number 256 (d ∷ digits)) < 256 ^ (behind + 1) → behind ≡ length digits
first_place d digits small other behind low high =
    let rest = signed_between 256 digits small.1 in
    let above : 256 ^ length digits ≤ 2 * nat_abs (signed_number 256 (d ∷ digits)) = first_above d (256 ^ length digits) (signed_number 256 digits) other rest.0 rest.1 in
    let whole = signed_between 256 (d ∷ digits) small in
    let next : length (d ∷ digits) ≡ length digits + 1 = omega arith in
    let power : 256 ^ length (d ∷ digits) ≡ 256 ^ (length digits + 1) = ap (λ k. 256 ^ k) next in
    let under : 2 * nat_abs (signed_number 256 (d ∷ digits)) < 256 ^ (length digits + 1) = twice_below (signed_number 256 (d ∷ digits)) _ _ power whole.0 whole.1 in
    let most = powers_meet behind (length digits) _ low under in
    let least = powers_meet (length digits) behind _ above high in
    omega arith
  where
    twice_below : (z : ℤ) (p q : ℕ) → p ≡ q → (pos 2 *ℤ z) <ℤ pos p → neg_ℤ (pos p) <ℤ (pos 2 *ℤ z) → 2 * nat_abs z < q
    twice_below z p q e up low = omega (arith, ints)

-- whether a number is 0
whether : (z : ℤ) → (z ≡ pos 0) ⊎ (z ≢ pos 0)
whether (pos zero) = inl refl
whether (pos (suc k)) = inr (λ e. omega (arith, ints))
whether (negsuc k) = inr (λ e. omega (arith, ints))

-- ---- rows, the last one first
reverse_is : (row : ℕ) (rows : List ℕ) → reverse (row ∷ rows) ≡ reverse rows ++ row ∷ []
reverse_is row rows = reverse_onto rows row []

module _ (n : ℕ) (span : List Bool) (m : SurdTable) (packable : IsPackable n span 8 5 m) (column : ℕ) (lc : column < 4 ^ n) where
  abbrev keep : ℕ → Bool
  keep row = in_block span column row

  abbrev cell : ℕ → Surd
  cell row = m row column

  abbrev digits : ℕ → ℕ → List ℤ
  digits row count = digits_of keep cell row count

  -- the row with so many rows behind it is the lead row
  abbrev Leads : ℕ → List ℕ → Type 0
  Leads behind rows = (behind < length rows) × IsLeadRow (4 ^ n) m column (slice_index rows behind)

  -- the digits from a row on, all above it being 0, tell the lead row
  abbrev Tells : ℕ → List ℤ → List ℕ → Type 0
  Tells behind ds rows = 256 ^ behind ≤ 2 * nat_abs (signed_number 256 ds) → 2 * nat_abs (signed_number 256 ds) < 256 ^ (behind + 1) → Leads behind (reverse rows)

  -- digits are small
  small_from : (row count : ℕ) → row + count ≤ 4 ^ n → AreSignedDigits 256 (digits row count)
  small_from row count l = digits_all keep cell (λ d. 2 * nat_abs d < 256) (4 ^ n) (λ r k. digits_rank.small (m r column) (packable.small r column k lc)) row count l

  -- one row more at the end
  leads_more : (behind row : ℕ) (rows : List ℕ) → Leads behind (reverse rows) → Leads behind (reverse (row ∷ rows))
  leads_more behind row rows h =
      subst (Leads behind) (sym (reverse_is row rows))
      ((let long = length-append (reverse rows) (row ∷ []) in let below = h.0 in omega arith), subst (IsLeadRow (4 ^ n) m column) (sym (get_or-append (reverse rows) (row ∷ []) 0 behind h.0)) h.1)

  -- a digit other than 0 stands in the lead row
  leads_here : (row : ℕ) (rows : List ℕ) (ds : List ℤ) → length ds ≡ length rows → row < 4 ^ n → ((r : ℕ) → r < row → cell r ≡ zero_surd) → digit (cell row) ≢ pos 0 → Leads (length ds) (reverse (row ∷ rows))
  unfolding surd_integer
  leads_here row rows ds same below zeros other =
      subst (Leads (length ds)) (sym (reverse_is row rows)) (
        (let long = length-append (reverse rows) (row ∷ []) in let turned = length-reverse rows in omega arith),
        subst (IsLeadRow (4 ^ n) m column) (sym at) (record { low = below; zeros = zeros; other = λ e. other (ap digit e) }),
      )
    where
      at : slice_index (reverse rows ++ row ∷ []) (length ds) ≡ row
      at = ap (λ k. slice_index (reverse rows ++ row ∷ []) k) (same ∙ sym (length-reverse rows)) ∙ get_or-append_seam (reverse rows) row [] 0

  -- zeros up to a row, and that row
  zeros_more : (row : ℕ) → ((r : ℕ) → r < row → cell r ≡ zero_surd) → cell row ≡ zero_surd → (r : ℕ) → r < row + 1 → cell r ≡ zero_surd
  zeros_more row zeros here r l = elim (cases_eq r row) [
    | inl e ↦ ap cell e ∙ here
    | inr d ↦ zeros r (omega arith)
  ]

  -- a row of the block: its digit is 0 and the rows behind it tell, or it is the lead row
  tells_here : (row count : ℕ) → row + suc count ≡ 4 ^ n → ((r : ℕ) → r < row → cell r ≡ zero_surd) → (behind : ℕ)
      → (cell row ≡ zero_surd → Tells behind (digits (row + 1) count) (rows_of keep (row + 1) count))
      → Tells behind (digit (cell row) ∷ digits (row + 1) count) (row ∷ rows_of keep (row + 1) count)
  unfolding surd_integer
  tells_here row count e zeros behind later low high = elim (whether (digit (cell row))) [
    | inl none ↦
        (let number = drop_front none in
        leads_more behind row (rows_of keep (row + 1) count)
        (later (is_zero none) (subst (λ z. 256 ^ behind ≤ 2 * nat_abs z) number low) (subst (λ z. 2 * nat_abs z < 256 ^ (behind + 1)) number high)))
    | inr some ↦
        (let place = first_place (digit (cell row)) (digits (row + 1) count) (digits_rank.small (cell row) small, small_from (row + 1) count (omega arith)) some behind low high in
        subst (λ k. Leads k (reverse (row ∷ rows_of keep (row + 1) count))) (sym place)
        (leads_here row (rows_of keep (row + 1) count) (digits (row + 1) count) (digits-length keep cell (row + 1) count) (omega arith) zeros some))
  ]
    where
      small : SurdUpTo 8 5 (cell row)
      small = packable.small row column (omega arith) lc

      is_zero : digit (cell row) ≡ pos 0 → cell row ≡ zero_surd
      is_zero none = let parts = digit-zero (cell row) small none in same_surd parts.0 parts.1

      drop_front : digit (cell row) ≡ pos 0 → signed_number 256 (digit (cell row) ∷ digits (row + 1) count) ≡ signed_number 256 (digits (row + 1) count)
      drop_front none =
          ap (λ d. d *ℤ pos (256 ^ length (digits (row + 1) count)) +ℤ signed_number 256 (digits (row + 1) count)) none
          ∙ no_front (signed_number 256 (digits (row + 1) count)) (pos (256 ^ length (digits (row + 1) count)))

  tells_from : (row count : ℕ) → row + count ≡ 4 ^ n → ((r : ℕ) → r < row → cell r ≡ zero_surd) → (behind : ℕ) → Tells behind (digits row count) (rows_of keep row count)
  tells_from row zero e zeros behind low high = absurd (let one = one-le-pow behind 256 (lit< tt) in omega arith)
  tells_from row (suc count) e zeros behind low high =
      let later : cell row ≡ zero_surd → Tells behind (digits (row + 1) count) (rows_of keep (row + 1) count) = λ none. tells_from (row + 1) count (omega arith) (zeros_more row zeros none) behind in
      elim (cases_Bool (keep row)) [
        | inr out ↦
            (let numbers = digits_no keep cell row count out in
            subst (Leads behind) (sym (ap reverse (rows_no keep cell row count out)))
            (later (packable.sparse row column (omega arith) lc out) (subst (λ ds. 256 ^ behind ≤ 2 * nat_abs (signed_number 256 ds)) numbers low) (subst (λ ds. 2 * nat_abs (signed_number 256 ds) < 256 ^ (behind + 1)) numbers high)))
        | inl kept ↦
            (let numbers = digits_yes keep cell row count kept in
            subst (Leads behind) (sym (ap reverse (rows_yes keep cell row count kept)))
            (tells_here row count e zeros behind later (subst (λ ds. 256 ^ behind ≤ 2 * nat_abs (signed_number 256 ds)) numbers low) (subst (λ ds. 2 * nat_abs (signed_number 256 ds) < 256 ^ (behind + 1)) numbers high)))
      ]

  -- so does the whole number
  pub number_lead : (behind : ℕ) → 256 ^ behind ≤ 2 * nat_abs (column_number (4 ^ n) span m column) → 2 * nat_abs (column_number (4 ^ n) span m column) < 256 ^ (behind + 1)
      → (behind < length (block_rows (4 ^ n) span column)) × IsLeadRow (4 ^ n) m column (slice_index (block_rows (4 ^ n) span column) behind)
  number_lead = tells_from 0 (4 ^ n) (omega arith) (λ r l. absurd (omega arith))
