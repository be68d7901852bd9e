-- Lemmas for the crates above: halves that meet spell the least word.
use Rattle.std.proofs.Common.{◌≡◌, ℕ, ◌+◌, ◌<◌, ◌≤◌, List, ◌++◌, length, ap, sym, ◌∙◌, subst, inl, inr, arith, length-append}
use Rattle.std.proofs.lemmas.Bool.{cases_order, cases_lt}
use Rattle.channel_rep.specs.Tables.{ScaledTable}
use Rattle.channel_rep.specs.Words.{IsWord}
use Rattle.channel_rep.proofs.Built.{same_table_sym}
use Rattle.coset_label.specs.Words.{word_channel}
use Rattle.coset_label.proofs.OneCoset.{same_coset_sym, same_coset_trans}
use Rattle.coset_label.specs.Order.{IsEarlier}
use Rattle.coset_label.proofs.InFront.{coset_after}
use Rattle.level_laws.specs.Levels.{IsInCoset, IsLeastWord, NoneBelow, Meets, removed}
use Rattle.level_laws.proofs.Earlier.{earlier_irrefl, earlier_asym}
use Rattle.meet_laws.proofs.Fronts.{IsSplit, split, AreFronts}
use Rattle.meet_laws.proofs.Parts.{Joins, first_meeting}
use Rattle.level_laws.proofs.Cosets.{word-append, word_front, word_behind, word_both}
use Rattle.level_laws.proofs.Inverses.{off_to_whole, whole_to_off}
use Rattle.level_laws.proofs.LeastWords.{least_word_exists, behind_least}

module _ (n : ℕ) (some : 0 < n) (few : n ≤ 3) (m : ScaledTable) where
  -- ---- one front
  -- a front that meets makes a word of the coset with what it meets
  pub meets_in_coset : (h : ℕ) (a b : List ℕ) → IsWord n a → Meets n m h a b → IsInCoset n m (a ++ b)
  meets_in_coset h a b ha meets = record {
    word = word_both n a b ha meets.level.least.member.word;
    coset = coset_after n m _ _ (off_to_whole n m a b ha meets.same) (same_table_sym n _ _ (word-append n a b));
  }

  -- each front of a least word meets what is behind it
  pub least_meets : (a b : List ℕ) → IsLeastWord n m (a ++ b) → Meets n m (length b) a b
  least_meets a b least = record {
    level = behind_least n m a b least;
    same = whole_to_off n m a b (word_front n a b least.member.word) (coset_after n m _ _ least.member.coset (word-append n a b));
  }

  -- what it meets is the least that makes a word of the coset behind it
  meets_joins : (h : ℕ) (a b : List ℕ) → IsWord n a → Meets n m h a b → Joins (IsInCoset n m) h a b
  meets_joins h a b ha meets = record {
    least = record {
      member = meets_in_coset h a b ha meets;
      shortest = λ v s. meets.level.least.shortest v (behind v s);
      first = λ v s. meets.level.least.first v (behind v s);
    };
    long = meets.level.letters;
  }
    where
      behind : (v : List ℕ) → IsInCoset n m (a ++ v) → IsInCoset n (word_channel n b) v
      behind v s = record {
        word = word_behind n a v s.word;
        coset = same_coset_trans n _ (removed n m a) _ (same_coset_sym n _ _ meets.same) (whole_to_off n m a v ha (coset_after n m _ _ s.coset (word-append n a v)));
      }

  module _ (f h count : ℕ) (front : ℕ → List ℕ) (fronts : AreFronts n f count front) (none : NoneBelow n m (f + h)) where
    -- a front that meets where the coset has a word of f + h letters
    found : (u : List ℕ) → IsLeastWord n m u → length u ≡ f + h → (i : ℕ) × (i < count) × (b : List ℕ) × Meets n m h (front i) b × (front i ++ b ≡ u)
    found u least long = by (split f u (omega arith))
      where
        by : IsSplit f u → (i : ℕ) × (i < count) × (b : List ℕ) × Meets n m h (front i) b × (front i ++ b ≡ u)
        by s =
            let whole = subst (IsLeastWord n m) (sym s.is) least in
            let at = fronts.covers m s.front s.back s.long whole in
            let k : length s.back ≡ h = omega (arith, length-append s.front s.back, ap length s.is, s.long) in (
              at.0,
              at.1,
              s.back,
              subst (λ a. Meets n m h a s.back) (sym at.2) (subst (λ j. Meets n m j s.front s.back) k (least_meets s.front s.back whole)),
              ap (λ (a : List ℕ). a ++ s.back) at.2 ∙ s.is,
            )

    -- the least word has f + h letters where it has no more
    least_long : (u v : List ℕ) → IsLeastWord n m u → IsInCoset n m v → length v ≤ f + h → length u ≡ f + h
    least_long u v least s l = elim (cases_lt (length u) (f + h)) [
      | inl less ↦ absurd (none u least.member less)
      | inr more ↦ omega (arith, least.shortest v s)
    ]

    -- where no front meets, no word of the coset has f + h letters
    pub none_meets : ((i : ℕ) → i < count → (b : List ℕ) → Meets n m h (front i) b → ⊥) → NoneBelow n m (f + h + 1)
    none_meets never v s l =
        let least = least_word_exists n m v s in
        let at = found least.0 least.1 (least_long least.0 v least.1 s (omega arith)) in
        never at.0 at.1 at.2 at.3

    -- the first front that meets spells the least word
    pub first_meets : (i : ℕ) → i < count → (b : List ℕ) → Meets n m h (front i) b → ((j : ℕ) → j < i → (x : List ℕ) → Meets n m h (front j) x → ⊥) → IsLeastWord n m (front i ++ b)
    first_meets i l b meets never = by (least_word_exists n m (front i ++ b) member)
      where
        member : IsInCoset n m (front i ++ b)
        member = meets_in_coset h (front i) b (fronts.word i l) meets

        by : (u : List ℕ) × IsLeastWord n m u → IsLeastWord n m (front i ++ b)
        by least =
            let long = least_long least.0 (front i ++ b) least.1 member (omega (arith, length-append (front i) b, fronts.long i l, meets.level.letters)) in
            let at = found least.0 least.1 long in
            let whole = subst (IsLeastWord n m) (sym at.4) least.1 in
            let same = first_meeting (IsInCoset n m) h (front i) b (front at.0) at.2 (fronts.long i l ∙ sym (fronts.long at.0 at.1))
            (meets_joins h (front i) b (fronts.word i l) meets) (meets_joins h (front at.0) at.2 (fronts.word at.0 at.1) at.3) (earlier at.0 at.1 at.2 at.3) whole in
            subst (IsLeastWord n m) (sym same) whole
          where
            earlier : (j : ℕ) → j < count → (x : List ℕ) → Meets n m h (front j) x → IsEarlier (front j) (front i) → ⊥
            earlier j lj x other e = elim (cases_order j i) [
              | inl same ↦ earlier_irrefl (front i) (subst (λ k. IsEarlier (front k) (front i)) same e)
              | inr (inl less) ↦ never j less x other
              | inr (inr more) ↦ earlier_asym (front j) (front i) e (fronts.rises i j more lj)
            ]
