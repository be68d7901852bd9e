-- Lemmas for the crates above: the tag of a letter before a word, from the cells of the word's own channel.
use Rattle.std.proofs.Common.{◌≡◌, ℕ, zero, suc, ◌+◌, ◌-◌, ◌*◌, ◌/◌, ◌^◌, ◌<◌, ◌≤◌, false, refl, ap, sym, ◌∙◌, subst, arith}
use Rattle.std.specs.Prelude.{ℤ, pos, ◌*ℤ◌}
use Rattle.ring_laws.specs.Matrix.{sum, product}
use Rattle.ring_laws.proofs.Sums.{sum_cong}
use Rattle.ring_laws.proofs.Integers.{integers_laws}
use Rattle.tc_ring.specs.Surds.{Surd, surds, surd_times, root2_surd}
use Rattle.tc_ring.proofs.Surds.{surds_laws, cancel_root2_power}
use Rattle.channel_rep.specs.Tables.{SurdTable, ScaledTable, by_rotation, stepped, SameTable, IsCircuitChannel, rotation_table}
use Rattle.channel_rep.proofs.Built.{root2_to, root2_to-add}
use Rattle.channel_rep.proofs.OnePower.{once_more, not_yet}
use Rattle.coset_label.specs.Labels.{Label, column_of, leads_negative, IsLabelOf}
use Rattle.coset_label.specs.Tags.{tag_of}
use Rattle.label_laws.specs.Congruence.{IsCongruent}
use Rattle.label_laws.specs.Folds.{weights, weighed, rotated_weights, root2_weights}
use Rattle.label_laws.specs.Totals.{place_of, turned_whole, column_power, placed_folds, tag_from}
use Rattle.label_laws.specs.Fronts.{front_weights, halved}
use Rattle.label_laws.proofs.Congruences.{congruent_self, congruent-plus, congruent_part}
use Rattle.label_laws.proofs.Folds.{weighed_rotation, whole_rotation, root2_out, weighed_once, weighed_twice}
use Rattle.label_laws.proofs.Totals.{placed-half, tag_of_total}

-- ---- powers of √2
root2_to-one : (x : Surd) → surd_times (root2_to 1) x ≡ surd_times root2_surd x
root2_to-one x = once_more 0 1 (surd_times root2_surd x) x _ refl refl (not_yet 0 (surd_times root2_surd x))

root2_to-two : (x : Surd) → surd_times (root2_to 2) x ≡ surd_times root2_surd (surd_times root2_surd x)
root2_to-two x = once_more 1 2 (surd_times root2_surd x) x _ refl refl (root2_to-one (surd_times root2_surd x))

-- ---- folds
-- folds of cells that agree
weighed_agree : (size : ℕ) (w m m' : SurdTable) (column : ℕ) → ((row : ℕ) → row < size → m row column ≡ m' row column) → weighed size w m column ≡ weighed size w m' column
unfolding product
weighed_agree size w m m' column h = ap (λ (s : Surd). s.b) (sum_cong surds_laws size _ _ (λ k l. ap (surd_times (w 0 k)) (h k l)))

-- and sums of folds that do
placed_agree : (n : ℕ) (m : SurdTable) (folds others : ℕ → ℤ) → ((c : ℕ) → c < 4 ^ n → folds c ≡ others c) → placed_folds n m folds ≡ placed_folds n m others
placed_agree n m folds others h =
    sum_cong integers_laws (4 ^ n) _ _ (λ c l. ap (λ z. turned_whole (leads_negative (column_of n m c)) z *ℤ pos (column_power n ^ (4 ^ n - 1 - place_of n m c))) (h c l))

-- folds by weights times √2 agree where the sums do
root2_both : (size : ℕ) (w v m k : SurdTable) (c : ℕ) → product surds size w m 0 c ≡ product surds size v k 0 c → weighed size (root2_weights w) m c ≡ weighed size (root2_weights v) k c
root2_both size w v m k c e = ap (λ (s : Surd). s.b) (root2_out size w m c ∙ ap (surd_times root2_surd) e ∙ sym (root2_out size v k c))

-- ---- fronts
module _ (n p : ℕ) (lp : p < 4 ^ n) (a b : ScaledTable) where
  -- the table of the rotation times that of the word
  abbrev turned : SurdTable
  turned = product surds (4 ^ n) (rotation_table n false p) a.table

  -- the weights for the cells before give the fold of the product
  by_product : (w : SurdTable) (c : ℕ) → weighed (4 ^ n) (rotated_weights n false p w) a.table c ≡ weighed (4 ^ n) w turned c
  by_product w c = sym (weighed_rotation n false p lp w a.table c)

  -- √2 to the number of divisions, times the table behind, is the product
  divided : SameTable n b (stepped n (by_rotation p) a) → (divisions : ℕ) → b.exponent + divisions ≡ a.exponent + 1
      → (row column : ℕ) → row < 4 ^ n → column < 4 ^ n → surd_times (root2_to divisions) (b.table row column) ≡ turned row column
  divided same divisions e row column l k =
      let whole : b.exponent + divisions ≡ 1 + a.exponent = omega arith in
      cancel_root2_power b.exponent _ _
      (sym (root2_to-add b.exponent divisions (b.table row column)) ∙ ap (λ j. surd_times (root2_to j) (b.table row column)) whole ∙ same row column l k)

  -- the sum over the cells before, by the front's weights, halved, is the sum over the cells behind
  sum_is : (divisions : ℕ) → divisions ≤ 2 → ((row column : ℕ) → row < 4 ^ n → column < 4 ^ n → surd_times (root2_to divisions) (b.table row column) ≡ turned row column)
      → (f : ℕ) → IsCongruent (2 ^ 64) (placed_folds n b.table (weighed (4 ^ n) (front_weights n p divisions) a.table)) f
      → IsCongruent (2 ^ 38) (placed_folds n b.table (weighed (4 ^ n) (weights (4 ^ n)) b.table)) (halved divisions f)
  sum_is zero few h f is =
      congruent_part (2 ^ 38) (2 ^ 26) _ f
      (subst (λ z. IsCongruent (2 ^ 64) z f)
      (placed_agree n b.table _ _ (λ c l. by_product (weights (4 ^ n)) c ∙ weighed_agree (4 ^ n) (weights (4 ^ n)) _ b.table c (λ r k. sym (h r c k l) ∙ not_yet 0 (b.table r c)))) is)
  sum_is (suc zero) few h f is =
      congruent_part (2 ^ 38) (2 ^ 25) _ (f / 2)
      (placed-half n b.table (weighed (4 ^ n) (front_weights n p 1) a.table) (weighed (4 ^ n) (weights (4 ^ n)) b.table) f
      (λ c l.
      root2_both (4 ^ n) (rotated_weights n false p (weights (4 ^ n))) (weights (4 ^ n)) a.table turned c (sym (whole_rotation n false p lp (weights (4 ^ n)) a.table c))
      ∙ weighed_once (4 ^ n) (weights (4 ^ n)) turned b.table c (λ r k. sym (root2_to-one (b.table r c)) ∙ h r c k l)) is)
  sum_is (suc (suc zero)) few h f is =
      congruent_part (2 ^ 38) (2 ^ 25) _ (f / 2)
      (placed-half n b.table (weighed (4 ^ n) (front_weights n p 2) a.table) (weighed (4 ^ n) (weights (4 ^ n)) b.table) f
      (λ c l. by_product (weights (4 ^ n)) c ∙ weighed_twice (4 ^ n) (weights (4 ^ n)) turned b.table c (λ r k. sym (root2_to-two (b.table r c)) ∙ h r c k l)) is)
  sum_is (suc (suc (suc divisions))) few h f is = absurd (omega arith)

-- so the tag of the front comes of the cells before
pub front_tag : (n p : ℕ) → p < 4 ^ n → 0 < n → n ≤ 3 → (a b : ScaledTable) → SameTable n b (stepped n (by_rotation p) a) → IsCircuitChannel n b
    → (label : Label) → IsLabelOf n b label → (divisions : ℕ) → divisions ≤ 2 → b.exponent + divisions ≡ a.exponent + 1
    → (f : ℕ) → IsCongruent (2 ^ 64) (placed_folds n b.table (weighed (4 ^ n) (front_weights n p divisions) a.table)) f
    → tag_of label ≡ tag_from (b.exponent * column_power n ^ 4 ^ n + halved divisions f)
front_tag n p lp some few a b same circuit label is divisions twice e f sum =
    tag_of_total n some few b circuit label is (b.exponent * column_power n ^ 4 ^ n + halved divisions f)
    (congruent-plus (2 ^ 38) (pos b.exponent *ℤ pos (column_power n ^ 4 ^ n)) _ (b.exponent * column_power n ^ 4 ^ n) (halved divisions f)
    (congruent_self (2 ^ 38) (b.exponent * column_power n ^ 4 ^ n))
    (sum_is n p lp a b divisions twice (divided n p lp a b same divisions e) f sum))
