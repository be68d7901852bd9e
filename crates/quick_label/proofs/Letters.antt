-- The sums of a table's columns behind a letter, from the cells before it.
use Rattle.std.proofs.Common.{◌≡◌, ℕ, zero, suc, ◌+◌, ◌^◌, ◌<◌, ◌≤◌, false, ap, sym, ◌∙◌, arith}
use Rattle.ring_laws.specs.Matrix.{product}
use Rattle.ring_laws.proofs.Sums.{sum_cong}
use Rattle.tc_ring.specs.Surds.{Surd, surds, surd_times, root2_surd}
use Rattle.tc_ring.proofs.Surds.{surds_laws, cancel_root2_power}
use Rattle.channel_rep.specs.Tables.{SurdTable, ScaledTable, by_rotation, stepped, SameTable, rotation_table}
use Rattle.channel_rep.proofs.Built.{root2_to, root2_to-add}
use Rattle.word_laws.proofs.Multiples.{root2_to-zero, root2_to-suc, root2_to-two}
use Rattle.label_laws.specs.Folds.{weighed, rotated_weights}
use Rattle.label_laws.proofs.Folds.{weighed_rotation, whole_rotation, root2_out, weighed_once, weighed_twice}
use Rattle.quick_label.specs.Weights.{before_letter, doubled}

-- one factor √2
times_one : (x : Surd) → surd_times (root2_to 1) x ≡ surd_times root2_surd x
times_one x = root2_to-suc 0 x ∙ ap (surd_times root2_surd) (root2_to-zero x)

module _ (n p : ℕ) (lp : p < 4 ^ n) (a b : ScaledTable) where
  -- the table of the rotation times that of the word
  abbrev turned : SurdTable
  turned = product surds (4 ^ n) (rotation_table n false p) a.table

  -- the sums of the cells before are those of the cells behind, or twice those
  sum_is : (divisions : ℕ) → divisions ≤ 2 → (w : SurdTable) (c : ℕ) → ((row : ℕ) → row < 4 ^ n → surd_times (root2_to divisions) (b.table row c) ≡ turned row c)
      → weighed (4 ^ n) (before_letter n p divisions w) a.table c ≡ doubled divisions (weighed (4 ^ n) w b.table c)
  unfolding product
  sum_is zero few w c h =
      sym (weighed_rotation n false p lp w a.table c)
      ∙ ap (λ (s : Surd). s.b) (sum_cong surds_laws (4 ^ n) _ _ (λ r k. ap (surd_times (w 0 r)) (sym (h r k) ∙ root2_to-zero (b.table r c))))
  sum_is (suc zero) few w c h =
      ap (λ (s : Surd). s.b)
      (root2_out (4 ^ n) (rotated_weights n false p w) a.table c ∙ ap (surd_times root2_surd) (sym (whole_rotation n false p lp w a.table c)) ∙ sym (root2_out (4 ^ n) w turned c))
      ∙ weighed_once (4 ^ n) w turned b.table c (λ r k. sym (times_one (b.table r c)) ∙ h r k)
  sum_is (suc (suc zero)) few w c h = sym (weighed_rotation n false p lp w a.table c) ∙ weighed_twice (4 ^ n) w turned b.table c (λ r k. sym (root2_to-two (b.table r c)) ∙ h r k)
  sum_is (suc (suc (suc divisions))) few w c h = absurd (omega arith)

pub sums_before : (n p : ℕ) → p < 4 ^ n → (a b : ScaledTable) → SameTable n b (stepped n (by_rotation p) a)
    → (divisions : ℕ) → divisions ≤ 2 → b.exponent + divisions ≡ a.exponent + 1 → (w : SurdTable) (column : ℕ) → column < 4 ^ n
    → weighed (4 ^ n) (before_letter n p divisions w) a.table column ≡ doubled divisions (weighed (4 ^ n) w b.table column)
sums_before n p lp a b same divisions few e w column l =
    sum_is n p lp a b divisions few w column
    (λ row k.
    let whole : b.exponent + divisions ≡ 1 + a.exponent = omega arith in
    cancel_root2_power b.exponent _ _
    (sym (root2_to-add b.exponent divisions (b.table row column)) ∙ ap (λ j. surd_times (root2_to j) (b.table row column)) whole ∙ same row column k l))
