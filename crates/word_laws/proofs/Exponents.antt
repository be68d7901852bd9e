-- Lemmas for the crates above: one letter changes the least exponent by at most one, and the number of divisions tells by how much.
use Rattle.std.proofs.Common.{◌≡◌, ◌≢◌, ◌↔◌, ℕ, suc, ◌+◌, ◌-◌, ◌^◌, ◌<◌, ◌≤◌, Bool, true, false, ap, sym, ◌∙◌, arith, inl, inr}
use Rattle.std.proofs.lemmas.Bool.{cases_eq, cases_lt}
use Rattle.ring_laws.proofs.Ring.{mul_left_comm}
use Rattle.tc_ring.specs.Surds.{surd_times, root2_surd}
use Rattle.tc_ring.proofs.Surds.{surds_laws, cancel_root2_power}
use Rattle.channel_rep.specs.Products.{table_product}
use Rattle.channel_rep.specs.Tables.{SurdTable, ScaledTable, stepped, SameTable}
use Rattle.channel_rep.specs.Rows.{rotated}
use Rattle.channel_rep.proofs.Built.{root2_to, root2_to-add, same_table_sym, same_table_trans}
use Rattle.channel_rep.proofs.Least.{odd_has_least}
use Rattle.channel_rep.proofs.Products.{tables_right}
use Rattle.channel_rep.proofs.Rules.{rotation_rule}
use Rattle.channel_rep.proofs.Undone.{turned}
use Rattle.coset_label.specs.Labels.{HasLeastExponent}
use Rattle.coset_label.proofs.Exponents.{least_of_coset}
use Rattle.coset_label.proofs.OneCoset.{same_coset_of_same}
use Rattle.word_laws.specs.Divisions.{IsMultiple, IsDivisionCount, letter_step}
use Rattle.word_laws.proofs.Rotations.{other_way, undone}
use Rattle.word_laws.proofs.Parities.{AllEven, even_or_odd, odd_quarter}
use Rattle.word_laws.proofs.Multiples.{over_root2, halves, root2_to-suc, root2_to-two}

module _ (n : ℕ) (inverse : Bool) (p : ℕ) (lp : p < 4 ^ n) (d : p ≢ 0) (a b : ScaledTable) (same : SameTable n b (table_product n (turned n inverse p) a)) where
  -- ---- by at most one
  rise : HasLeastExponent n b → b.exponent ≤ a.exponent + 1
  rise least = let low = least_of_coset n b (table_product n (turned n inverse p) a) least (same_coset_of_same n _ _ same) in omega (arith, low)

  -- the table before is the one behind with the letter undone
  before : SameTable n a (table_product n (other_way n inverse p) b)
  before =
      same_table_trans n a (table_product n (other_way n inverse p) (table_product n (turned n inverse p) a)) _
      (same_table_sym n _ a (undone n inverse p lp d a))
      (tables_right n (other_way n inverse p) (table_product n (turned n inverse p) a) b (same_table_sym n b _ same))

  fall : HasLeastExponent n a → a.exponent ≤ b.exponent + 1
  fall least = let low = least_of_coset n a (table_product n (other_way n inverse p) b) least (same_coset_of_same n _ _ before) in omega (arith, low)

  -- ---- by the number of divisions
  -- the entries behind, over their exponent, are those of the rotation over one power more than before
  entry_is : (row column : ℕ) → row < 4 ^ n → column < 4 ^ n → surd_times (root2_to (1 + a.exponent)) (b.table row column) ≡ surd_times (root2_to b.exponent) (rotated n inverse p a.table row column)
  entry_is row column l h = same row column l h ∙ ap (surd_times (root2_to b.exponent)) (rotation_rule n inverse p lp d a.table row column l)

  module _ (count : ℕ) (is : IsDivisionCount n (rotated n inverse p a.table) count) where
    quotient : SurdTable
    quotient = is.divides.0

    -- the entries behind, by the quotient
    quotient_is : (row column : ℕ) → row < 4 ^ n → column < 4 ^ n → surd_times (root2_to (1 + a.exponent)) (b.table row column) ≡ surd_times (root2_to (b.exponent + count)) (quotient row column)
    unfolding quotient
    quotient_is row column l h =
        entry_is row column l h
        ∙ ap (surd_times (root2_to b.exponent)) (sym (is.divides.1 row column l h))
        ∙ sym (root2_to-add b.exponent count (is.divides.0 row column))

    -- the least exponent is no greater
    least_is_low : HasLeastExponent n b → b.exponent ≤ a.exponent + 1 - count
    least_is_low least = elim least [
      | inl none ↦ omega arith
      | inr odd ↦
          let low = odd_has_least (1 + a.exponent) (b.exponent + count) (quotient odd.row odd.column) (b.table odd.row odd.column) odd.odd (sym (quotient_is odd.row odd.column odd.row_below odd.column_below)) in
          omega (arith, low)
    ]

    -- nor smaller: else the rotation could be divided once more
    once_more : b.exponent + count < a.exponent + 1 → IsMultiple n (count + 1) (rotated n inverse p a.table)
    once_more l = (λ row column. surd_times (root2_to over) (b.table row column), λ row column h k. cancel_root2_power b.exponent _ _ (sym (whole row column) ∙ entry_is row column h k))
      where
        over : ℕ
        over = a.exponent - b.exponent - count

        whole : (row column : ℕ) → surd_times (root2_to (1 + a.exponent)) (b.table row column) ≡ surd_times (root2_to b.exponent) (surd_times (root2_to (count + 1)) (surd_times (root2_to over) (b.table row column)))
        whole row column =
            let parts : 1 + a.exponent ≡ b.exponent + (count + 1 + over) = omega arith in
            ap (λ k. surd_times (root2_to k) (b.table row column)) parts
            ∙ root2_to-add b.exponent (count + 1 + over) (b.table row column)
            ∙ ap (surd_times (root2_to b.exponent)) (root2_to-add (count + 1) over (b.table row column))

    exponent_is : HasLeastExponent n a → HasLeastExponent n b → b.exponent ≡ a.exponent + 1 - count
    exponent_is least after = elim (cases_lt count 2) [
      | inl few ↦ elim (cases_lt (b.exponent + count) (a.exponent + 1)) [
        | inl less ↦ absurd (is.no_more few (once_more less))
        | inr more ↦ omega (arith, least_is_low after)
      ]
      | inr two ↦ omega (arith, is.few, fall least, least_is_low after)
    ]

    -- ---- the exponent that this gives is the least one
    -- where it isn't 0, the table behind is the quotient
    table_is : b.exponent + count ≡ a.exponent + 1 → (row column : ℕ) → row < 4 ^ n → column < 4 ^ n → surd_times (root2_to count) (b.table row column) ≡ rotated n inverse p a.table row column
    table_is e row column l h =
        let sum : b.exponent + count ≡ 1 + a.exponent = omega arith in
        cancel_root2_power b.exponent _ _ (sym (root2_to-add b.exponent count (b.table row column)) ∙ ap (λ k. surd_times (root2_to k) (b.table row column)) sum ∙ entry_is row column l h)

    -- and if all its whole parts were even, the rotation could be divided once more
    even_once_more : b.exponent + count ≡ a.exponent + 1 → AllEven n b.table → IsMultiple n (count + 1) (rotated n inverse p a.table)
    even_once_more e even = (
      λ row column. over_root2 (b.table row column),
      λ row column l h.
          let next : count + 1 ≡ suc count = omega arith in
          ap (λ k. surd_times (root2_to k) (over_root2 (b.table row column))) next
          ∙ root2_to-suc count (over_root2 (b.table row column))
          ∙ mul_left_comm surds_laws root2_surd (root2_to count) (over_root2 (b.table row column))
          ∙ ap (surd_times (root2_to count)) (halves n b.table even row column l h)
          ∙ table_is e row column l h,
    )

    exponent_is_least : HasLeastExponent n a → b.exponent ≡ a.exponent + 1 - count → HasLeastExponent n b
    exponent_is_least least e = elim (cases_eq b.exponent 0) [
      | inl none ↦ inl none
      | inr some ↦ elim (even_or_odd n b) [
        | inr odd ↦ inr odd
        | inl even ↦ elim (cases_lt count 2) [
          | inl few ↦ absurd (is.no_more few (even_once_more (omega arith) even))
          | inr more ↦ inr (odd_quarter n inverse p lp a b (twice (omega (arith, is.few)) (omega arith)) (elim least [ inl none ↦ absurd (omega arith) | inr odd ↦ odd ]))
        ]
      ]
    ]
      where
        twice : count ≡ 2 → b.exponent + count ≡ a.exponent + 1 → (row column : ℕ) → row < 4 ^ n → column < 4 ^ n → surd_times root2_surd (surd_times root2_surd (b.table row column)) ≡ rotated n inverse p a.table row column
        twice two whole row column l h =
            sym (root2_to-two (b.table row column)) ∙ ap (λ k. surd_times (root2_to k) (b.table row column)) (sym two) ∙ table_is whole row column l h

-- a letter is such a step
one_step : (n : ℕ) (inverse : Bool) (p : ℕ) (a b : ScaledTable) → SameTable n b (stepped n (letter_step inverse p) a) → SameTable n b (table_product n (turned n inverse p) a)
one_step n true p a b same = same
one_step n false p a b same = same

-- it changes the least exponent by at most one
pub exponent_steps : (n : ℕ) (inverse : Bool) (p : ℕ) → p < 4 ^ n → p ≢ 0 → (a b : ScaledTable) → SameTable n b (stepped n (letter_step inverse p) a) → HasLeastExponent n a → HasLeastExponent n b
    → (b.exponent ≤ a.exponent + 1) × (a.exponent ≤ b.exponent + 1)
exponent_steps n inverse p lp d a b same before after = let step = one_step n inverse p a b same in (rise n inverse p lp d a b step after, fall n inverse p lp d a b step before)

-- and by how much, the divisions tell
pub exponent_by_divisions : (n : ℕ) (inverse : Bool) (p : ℕ) → p < 4 ^ n → p ≢ 0 → (a b : ScaledTable) → SameTable n b (stepped n (letter_step inverse p) a) → HasLeastExponent n a
    → (count : ℕ) → IsDivisionCount n (rotated n inverse p a.table) count → HasLeastExponent n b ↔ (b.exponent ≡ a.exponent + 1 - count)
exponent_by_divisions n inverse p lp d a b same before count is =
    let step = one_step n inverse p a b same in
    (exponent_is n inverse p lp d a b step count is before, exponent_is_least n inverse p lp d a b step count is before)
