-- A letter before a word has a channel with the least exponent, of which the number of divisions tells, and a label.
use Rattle.std.proofs.Common.{◌≡◌, ℕ, zero, suc, ◌+◌, ◌-◌, ◌*◌, ◌^◌, ◌<◌, ◌≤◌, Bool, false, List, ◌∷◌, refl, ap, sym, ◌∙◌, subst, arith}
use Rattle.tc_ring.specs.Surds.{surd_times}
use Rattle.channel_rep.specs.Tables.{ScaledTable, by_rotation, stepped, SameTable, IsBuiltOf, IsCircuitChannel}
use Rattle.channel_rep.specs.Rows.{rotated}
use Rattle.channel_rep.specs.Words.{IsWord}
use Rattle.channel_rep.proofs.Built.{root2_to, root2_to-add, built_more, built_same}
use Rattle.channel_rep.proofs.Rules.{rotation_rule}
use Rattle.coset_label.specs.Labels.{Label, HasLeastExponent, IsLabelOf}
use Rattle.coset_label.specs.Tags.{tag_of}
use Rattle.coset_label.specs.Words.{word_steps}
use Rattle.coset_label.proofs.WordChannels.{word_circuit}
use Rattle.label_laws.specs.Congruence.{IsCongruent}
use Rattle.label_laws.specs.Folds.{weights, weighed}
use Rattle.label_laws.specs.Fronts.{front_weights, halved}
use Rattle.label_laws.specs.Totals.{column_power, placed_folds, tag_from}
use Rattle.label_laws.proofs.Fronts.{front_tag}
use Rattle.word_laws.specs.Divisions.{IsDivisionCount}
use Rattle.word_laws.proofs.Exponents.{exponent_by_divisions}
use Rattle.word_laws.proofs.Norms.{divisions_below}
use Rattle.quick_label.specs.Fronts.{IsFront}
use Rattle.quick_label.specs.Spans.{AreSpan}
use Rattle.quick_label.specs.Tables.{IsPackable}
use Rattle.quick_label.specs.Weights.{before_letter}
use Rattle.quick_label.proofs.PackableWords.{words_packable}
use Rattle.quick_label.proofs.SortedColumns.{label_of_table}

-- the channel b behind the letter, with its label
pub record HasFront (n : ℕ) (word : List ℕ) (p divisions : ℕ) (span : List Bool) (a : ScaledTable) : Type 0 where
  pub b : ScaledTable
  pub front : IsFront n p divisions a b
  pub circuit : IsCircuitChannel n b
  pub built : IsBuiltOf n (word_steps (p ∷ word)) b
  pub label : Label
  pub is : IsLabelOf n b label
  pub packable : b.exponent ≤ 6 → IsPackable n span 8 5 b.table
  pub packable_small : b.exponent ≤ 5 → IsPackable n span 5 4 b.table

-- ---- the channel
module _ (n : ℕ) (some : 0 < n) (few : n ≤ 3) (word : List ℕ) (p : ℕ) (is : IsWord n (p ∷ word)) (a : ScaledTable) (built : IsBuiltOf n (word_steps word) a)
    (least : HasLeastExponent n a) (divisions : ℕ) (count : IsDivisionCount n (rotated n false p a.table) divisions) where
  -- at most one more than the exponent
  low : divisions ≤ a.exponent + 1
  low = divisions_below n some few false p is.0.0 is.0.1 a (word_circuit n word a is.1 built) divisions count

  -- the quotient over the exponent that is left
  behind : ScaledTable
  behind = record { table = count.divides.0; exponent = a.exponent + 1 - divisions }

  behind_exponent : behind.exponent + divisions ≡ a.exponent + 1
  unfolding behind
  behind_exponent = omega (arith, low)

  same : SameTable n behind (stepped n (by_rotation p) a)
  unfolding behind
  same row column l k =
      let parts : 1 + a.exponent ≡ (a.exponent + 1 - divisions) + divisions = omega (arith, low) in
      ap (λ j. surd_times (root2_to j) (count.divides.0 row column)) parts
      ∙ root2_to-add (a.exponent + 1 - divisions) divisions (count.divides.0 row column)
      ∙ ap (surd_times (root2_to (a.exponent + 1 - divisions))) (count.divides.1 row column l k ∙ sym (rotation_rule n false p is.0.0 is.0.1 a.table row column l))

  behind_built : IsBuiltOf n (word_steps (p ∷ word)) behind
  behind_built =
      built_same n (word_steps (p ∷ word)) (stepped n (by_rotation p) a) behind same
      (built_more n (word_steps word) (by_rotation p) a (stepped n (by_rotation p) a) refl (λ r c l k. refl) built)

  behind_least : HasLeastExponent n behind
  unfolding behind
  behind_least = (exponent_by_divisions n false p is.0.0 is.0.1 a behind same least divisions count).1 refl

  -- with its label
  pub front_exists : (span : List Bool) → AreSpan n (p ∷ word) span → HasFront n word p divisions span a
  front_exists span are =
      let l = label_of_table n behind behind_least in
      let packable = words_packable n some few (p ∷ word) is span are behind behind_built in
      record {
        b = behind;
        front = record { letter = is.0.0; same = same; few = count.few; exponent = behind_exponent };
        circuit = word_circuit n (p ∷ word) behind is behind_built;
        built = behind_built;
        label = l.0;
        is = l.1;
        packable = packable.0;
        packable_small = packable.1;
      }

-- ---- the tag
-- the weights of the fold before a letter are those of any weights
fold_weights_before : (n p divisions : ℕ) → before_letter n p divisions (weights (4 ^ n)) ≡ front_weights n p divisions
fold_weights_before n p zero = refl
fold_weights_before n p (suc zero) = refl
fold_weights_before n p (suc (suc k)) = refl

-- the sum of the folds at their places tells the label's tag
pub tag_of_front : (n p divisions : ℕ) → 0 < n → n ≤ 3 → (a b : ScaledTable) → IsFront n p divisions a b → IsCircuitChannel n b → (label : Label) → IsLabelOf n b label
    → (f : ℕ) → IsCongruent (2 ^ 64) (placed_folds n b.table (weighed (4 ^ n) (before_letter n p divisions (weights (4 ^ n))) a.table)) f
    → tag_of label ≡ tag_from (b.exponent * column_power n ^ 4 ^ n + halved divisions f)
tag_of_front n p divisions some few a b front circuit label is f sum =
    front_tag n p front.letter some few a b front.same circuit label is divisions front.few front.exponent f
    (subst (λ w. IsCongruent (2 ^ 64) (placed_folds n b.table (weighed (4 ^ n) w a.table)) f) (fold_weights_before n p divisions) sum)
