-- Words of bits that hold parities: a bit more, at any place.
use Rattle.std.proofs.Common.{◌≡◌, ◌≢◌, ℕ, ◌+◌, ◌*◌, ◌%◌, ◌^◌, ◌<◌, ◌≤◌, List, length, take, slice_index, bit_or, w64, refl, ap, sym, ◌∙◌, subst, arith, inl, inr}
use Rattle.std.proofs.Math.Pow.{pow_mono}
use Rattle.std.proofs.Math.Nat.{mod-eq_of_lt}
use Rattle.std.specs.Prelude.{nat_eq}
use Rattle.std.specs.Int.{bit_at}
use Rattle.std.specs.List.{count_by}
use Rattle.std.proofs.lemmas.Bool.{cases_eq, eq-eqb, ne_eqb}
use Rattle.std.proofs.lemmas.List.Sums.{count_by_more_no, count_by_more_yes}
use Rattle.std.proofs.lemmas.Nat.{pow-add, or_lt}
use Rattle.std.proofs.lemmas.Nat.Bits.{bit_at_set_same, bit_at_set_other, bit_at-zero}
use Rattle.quick_label.specs.ParityWords.{HasBitsAt}

module _ (word place : ℕ) (inside : place < 64) where
  -- a word with one bit set
  abbrev pub with_one : ℕ
  with_one = bit_or word (1 * 2 ^ place % 2 ^ 64)

  single : 1 * 2 ^ place % 2 ^ 64 ≡ 2 ^ place
  single = (let top : 2 ^ place ≤ 2 ^ 63 = pow_mono {i = place} {j = 63} (omega arith) in
      mod-eq_of_lt {n = 1 * 2 ^ place} {m = 2 ^ 64} (omega (arith, top)) ∙ (omega arith))

  -- has no further bits
  pub one_below : (bits : ℕ) → place < bits → word < 2 ^ bits → with_one < 2 ^ bits
  one_below bits l low =
      let next : 2 ^ (place + 1) ≤ 2 ^ bits = pow_mono {i = place + 1} {j = bits} (omega arith) in
      let some : 1 ≤ 2 ^ place = pow_mono {i = 0} {j = place} (omega arith) in
      subst (λ k. bit_or word k < 2 ^ bits) (sym single) (or_lt bits word (2 ^ place) low (omega (arith, next, some, pow-add 2 place 1)))

  pub one_kept : (k : ℕ) → k ≢ place → bit_at with_one k ≡ bit_at word k
  one_kept k d = bit_at_set_other w64 word place inside k d

  pub one_set : bit_at with_one place ≡ 1
  one_set = bit_at_set_same w64 word place inside

-- ---- the bits at the places of a list
-- none yet
pub no_bits : (places : List ℕ) (bit : ℕ → ℕ) → HasBitsAt (take 0 places) bit 0
no_bits places bit = record {
  inside = λ k l. absurd (omega arith);
  outside = λ k e. bit_at-zero k;
}

-- one more
pub bits_more : (places : List ℕ) (bit : ℕ → ℕ) (i word more number : ℕ) → i < length places → HasBitsAt (take i places) bit word → number ≡ bit (slice_index places i)
    → ((k : ℕ) → k ≢ slice_index places i → bit_at more k ≡ bit_at word k)
    → (bit_at word (slice_index places i) ≡ 0 → bit_at more (slice_index places i) ≡ number)
    → (bit_at word (slice_index places i) ≡ number → bit_at more (slice_index places i) ≡ number) → HasBitsAt (take (i + 1) places) bit more
bits_more places bit i word more number l h is kept fresh again = record {
  inside = λ k some. elim (cases_eq k (slice_index places i)) [
    | inl e ↦ subst (λ j. bit_at more j ≡ bit j) (sym e) (own ∙ is)
    | inr d ↦ kept k d ∙ h.inside k (subst (λ c. 0 < c) (count_by_more_no (nat_eq k) places i 0 l (ne_eqb k (slice_index places i) d)) some)
  ];
  outside = λ k none. elim (cases_eq k (slice_index places i)) [
    | inl e ↦ absurd (let yes = count_by_more_yes (nat_eq k) places i 0 l (eq-eqb k (slice_index places i) e) in omega (arith, none))
    | inr d ↦ kept k d ∙ h.outside k (sym (count_by_more_no (nat_eq k) places i 0 l (ne_eqb k (slice_index places i) d)) ∙ none)
  ];
}
  where
    own : bit_at more (slice_index places i) ≡ number
    own = elim (cases_eq (count_by (nat_eq (slice_index places i)) (take i places)) 0) [
      | inl none ↦ fresh (h.outside (slice_index places i) none)
      | inr some ↦ again (h.inside (slice_index places i) (omega arith) ∙ sym is)
    ]
