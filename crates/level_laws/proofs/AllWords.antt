-- Lemmas for the crates above: all words of a length, in order, and the filter of them that is the level.
use Rattle.std.proofs.Common.{◌≡◌, ℕ, zero, suc, Bool, true, false, not, ◌&&◌, ◌+◌, ◌-◌, ◌^◌, ◌<◌, ◌≤◌, List, [], ◌∷◌, length, map, flat_map, slice_index_or, Contains, Decides, refl, ap, sym, ◌∙◌, subst, inl, inr, arith, true≢false}
use Rattle.std.specs.List.{list_any, range_with_len}
use Rattle.std.specs.List.Sorted.{IsStrictlySortedBy}
use Rattle.std.specs.Ordering.{nat_cmp, is_lt}
use Rattle.std.specs.Cmp.Lexicographic.{slice_cmp}
use Rattle.std.specs.declared.cmp.Ordering.{Ordering}
use Rattle.std.specs.declared.cmp.Ordering.TheVariants.{Less, Equal, Greater}
use Rattle.std.proofs.lemmas.Bool.{cases_Bool, cases_lt}
use Rattle.std.proofs.lemmas.List.Elements.{Contains-append_left, Contains-append_right, Contains-append_cases}
use Rattle.std.proofs.lemmas.List.Folds.{list_any_at, Any-from_list_any}
use Rattle.std.proofs.lemmas.List.Kept.{IsStrictlySortedBy-filter}
use Rattle.channel_rep.specs.Tables.{ScaledTable}
use Rattle.channel_rep.specs.Words.{IsWord}
use Rattle.coset_label.specs.Cosets.{SameCoset}
use Rattle.coset_label.specs.Packing.{four_pos}
use Rattle.coset_label.specs.Words.{word_channel}
use Rattle.coset_label.specs.Decided.{in_one_coset}
use Rattle.level_laws.specs.Levels.{IsInCoset, shorter_words, earlier_words, has_word, level, IsLevelWord, IsLevel, StandsIn}
use Rattle.coset_label.specs.Order.{IsEarlier, words_of}
use Rattle.coset_label.proofs.Deciding.{one_coset_decided}
use Rattle.level_laws.proofs.Earlier.{head_less, head_same}
use Rattle.level_laws.proofs.LeastWords.{own_coset}
use Rattle.level_laws.proofs.Lists.{all_from, all_at, first, none_in_empty, from_filter, in_filter, in_map, from_map, in_flat_map, from_flat_map, in_range, from_range, sorted-append}

-- ---- all words of a length
-- those that begin with a letter
abbrev starting : ℕ → ℕ → ℕ → List (List ℕ)
starting n k letter = map (λ (word : List ℕ). letter ∷ word) (words_of n k)

-- each of them is a word of so many letters
pub from_words : (n k : ℕ) (w : List ℕ) → Contains (words_of n k) w → IsWord n w × (length w ≡ k)
from_words n zero w c = subst (λ (v : List ℕ). IsWord n v × (length v ≡ 0)) (only w c) (tt, refl)
  where
    only : (w : List ℕ) → Contains ([] ∷ []) w → [] ≡ w
    only w c = let l = c.1 in let e : c.0 ≡ 0 = omega arith in let r = c.2 in subst (λ (k : ℕ). slice_index_or ([] ∷ []) k w ≡ w) e r
from_words n (suc k) w c = by (λ v d. from_words n k v d) (from_flat_map (starting n k) (range_with_len 1 (4 ^ n - 1)) w c)
  where
    by : ((v : List ℕ) → Contains (words_of n k) v → IsWord n v × (length v ≡ k)) → (letter : ℕ) × Contains (range_with_len 1 (4 ^ n - 1)) letter × Contains (starting n k letter) w → IsWord n w × (length w ≡ suc k)
    by words at =
        let bounds = from_range 1 (4 ^ n - 1) at.0 at.1 in
        let v = from_map (λ (word : List ℕ). at.0 ∷ word) (words_of n k) w at.2 in
        let h = words v.0 v.1 in
        subst (λ (u : List ℕ). IsWord n u × (length u ≡ suc k)) v.2 (((omega (arith, bounds.1, four_pos n), λ e. omega (arith, bounds.0)), h.0), ap suc h.1)

-- and each word of so many letters is among them
pub in_words : (n : ℕ) (w : List ℕ) → IsWord n w → Contains (words_of n (length w)) w
in_words n [] h = first [] []
in_words n (p ∷ w) h =
    in_flat_map (starting n (length w)) (range_with_len 1 (4 ^ n - 1)) p (p ∷ w) (in_range 1 (4 ^ n - 1) p (let d = h.0.1 in omega arith) (let l = h.0.0 in omega arith))
    (in_map (λ (word : List ℕ). p ∷ word) (words_of n (length w)) w (in_words n w h.1))

-- they stand in order
-- each begins with a letter of the range
head_from : (n k a count : ℕ) (w : List ℕ) → Contains (flat_map (starting n k) (range_with_len a count)) w → (p : ℕ) × (v : List ℕ) × (a ≤ p) × (p ∷ v ≡ w)
head_from n k a count w c =
    let at = from_flat_map (starting n k) (range_with_len a count) w c in
    let v = from_map (λ (word : List ℕ). at.0 ∷ word) (words_of n k) w at.2 in
    (at.0, v.0, (from_range a count at.0 at.1).0, v.2)

-- one letter before words in order
same_letter : (p : ℕ) (words : List (List ℕ)) → IsStrictlySortedBy (slice_cmp nat_cmp) words → IsStrictlySortedBy (slice_cmp nat_cmp) (map (λ (w : List ℕ). p ∷ w) words)
unfolding IsStrictlySortedBy
same_letter p [] h = tt
same_letter p (v ∷ words) h = (
  all_from (λ (u : List ℕ). slice_cmp nat_cmp (p ∷ v) u ≡ Less) (map (λ (w : List ℕ). p ∷ w) words) (λ u c.
      let at = from_map (λ (w : List ℕ). p ∷ w) words u c in
      subst (IsEarlier (p ∷ v)) at.2 (head_same p v at.0 (all_at (λ (w : List ℕ). slice_cmp nat_cmp v w ≡ Less) words h.0 at.0 at.1))),
  same_letter p words h.1,
)

-- rising letters before words in order
rising_letters : (n k : ℕ) → IsStrictlySortedBy (slice_cmp nat_cmp) (words_of n k) → (a count : ℕ) → IsStrictlySortedBy (slice_cmp nat_cmp) (flat_map (starting n k) (range_with_len a count))
unfolding IsStrictlySortedBy
rising_letters n k h a zero = tt
rising_letters n k h a (suc count) =
    sorted-append (slice_cmp nat_cmp) (starting n k a) (flat_map (starting n k) (range_with_len (a + 1) count)) (same_letter a (words_of n k) h) (rising_letters n k h (a + 1) count) (λ x y cx cy.
    let v = from_map (λ (w : List ℕ). a ∷ w) (words_of n k) x cx in
    let u = head_from n k (a + 1) count y cy in
    subst (λ (z : List ℕ). IsEarlier z y) v.2 (subst (IsEarlier (a ∷ v.0)) u.3 (head_less a u.0 v.0 u.1 (let l = u.2 in omega arith))))

pub words_rise : (n k : ℕ) → IsStrictlySortedBy (slice_cmp nat_cmp) (words_of n k)
unfolding IsStrictlySortedBy
words_rise n zero = (tt, tt)
words_rise n (suc k) = rising_letters n k (words_rise n k) 1 (4 ^ n - 1)

-- ---- shorter and earlier ones
pub in_shorter : (n k : ℕ) (v : List ℕ) → IsWord n v → length v < k → Contains (shorter_words n k) v
in_shorter n zero v h l = absurd (omega arith)
in_shorter n (suc k) v h l = elim (cases_lt (length v) k) [
  | inl less ↦ Contains-append_left (shorter_words n k) (words_of n k) v (in_shorter n k v h less)
  | inr same ↦ (let e : length v ≡ k = omega arith in Contains-append_right (shorter_words n k) (words_of n k) v (subst (λ (j : ℕ). Contains (words_of n j) v) e (in_words n v h)))
]

pub from_shorter : (n k : ℕ) (v : List ℕ) → Contains (shorter_words n k) v → IsWord n v × (length v < k)
from_shorter n zero v c = absurd (none_in_empty v c)
from_shorter n (suc k) v c = elim (Contains-append_cases (shorter_words n k) (words_of n k) v c) [
  | inl d ↦ (let h = from_shorter n k v d in (h.0, let l = h.1 in omega arith))
  | inr d ↦ (let h = from_words n k v d in (h.0, let l = h.1 in omega arith))
]

-- the test of the order
is_earlier : (v w : List ℕ) → IsEarlier v w → is_lt (slice_cmp nat_cmp v w) ≡ true
is_earlier v w e = ap is_lt e

earlier_is : (v w : List ℕ) → is_lt (slice_cmp nat_cmp v w) ≡ true → IsEarlier v w
earlier_is v w t = by (slice_cmp nat_cmp v w) t
  where
    by : (o : Ordering) → is_lt o ≡ true → o ≡ Less
    by Less t = refl
    by Equal t = absurd (true≢false (sym t))
    by Greater t = absurd (true≢false (sym t))

-- ---- the words of a list in a coset
module _ (n : ℕ) (m : ScaledTable) (words : List (List ℕ)) where
  abbrev test : List ℕ → Bool
  test v = in_one_coset n m (word_channel n v)

  pub has_decided : Decides (has_word n m words) ((v : List ℕ) × Contains words v × SameCoset n m (word_channel n v))
  unfolding has_word
  has_decided = (there, back)
    where
      there : list_any test words ≡ true → (v : List ℕ) × Contains words v × SameCoset n m (word_channel n v)
      there e =
          let any = Any-from_list_any test words e in
          (any.1, (any.0, any.2, any.3), (one_coset_decided n m (word_channel n any.1)).0 any.4)

      back : (v : List ℕ) × Contains words v × SameCoset n m (word_channel n v) → list_any test words ≡ true
      back found =
          let at = found.1 in
          list_any_at test words at.0 found.0 at.1 (subst (λ (v : List ℕ). test v ≡ true) (sym at.2) ((one_coset_decided n m (word_channel n found.0)).1 found.2))

-- whether a coset stands in a level is told by the level's words
pub stands_decided : (n k : ℕ) (words : List (List ℕ)) → IsLevel n k words → (m : ScaledTable) → Decides (has_word n m words) (StandsIn n k m)
stands_decided n k words is m =
    let tells = has_decided n m words in (
      λ e. let found = tells.0 e in (found.0, record { level = (is.members found.0).0 found.1; same = found.2 }),
      λ stands. tells.1 (stands.0, (is.members stands.0).1 stands.1.level, stands.1.same),
    )

-- ---- the level
module _ (n k : ℕ) where
  -- of a word's coset no shorter word is, and no earlier one
  abbrev free : List ℕ → Bool
  free w = not (has_word n (word_channel n w) (shorter_words n k)) && not (has_word n (word_channel n w) (earlier_words n k w))

  not_true : (b : Bool) → not b ≡ true → b ≡ false
  not_true true e = absurd (true≢false (sym e))
  not_true false e = refl

  both_parts : (a b : Bool) → (a && b) ≡ true → (a ≡ true) × (b ≡ true)
  both_parts true true e = (refl, refl)
  both_parts true false e = absurd (true≢false (sym e))
  both_parts false b e = absurd (true≢false (sym e))

  passes : (w : List ℕ) → IsWord n w → length w ≡ k → free w ≡ true → IsLevelWord n k w
  passes w h long t =
      let both = both_parts (not (has_word n (word_channel n w) (shorter_words n k))) (not (has_word n (word_channel n w) (earlier_words n k w))) t in
      let none_shorter : has_word n (word_channel n w) (shorter_words n k) ≡ false = not_true _ both.0 in
      let none_earlier : has_word n (word_channel n w) (earlier_words n k w) ≡ false = not_true _ both.1 in
      record {
        letters = long;
        least = record {
          member = own_coset n w h;
          shortest = λ v s. elim (cases_lt (length v) k) [
            | inl less ↦ absurd (true≢false (sym ((has_decided n (word_channel n w) (shorter_words n k)).1 (v, in_shorter n k v s.word less, s.coset)) ∙ none_shorter))
            | inr more ↦ omega arith
          ];
          first = λ v s l e. true≢false (sym ((has_decided n (word_channel n w) (earlier_words n k w)).1 (v, early v s l e, s.coset)) ∙ none_earlier);
        };
      }
    where
      early : (v : List ℕ) → IsInCoset n (word_channel n w) v → length v ≡ length w → IsEarlier v w → Contains (earlier_words n k w) v
      early v s l e =
          let same : length v ≡ k = l ∙ long in
          in_filter (λ (u : List ℕ). is_lt (slice_cmp nat_cmp u w)) (words_of n k) v (subst (λ (j : ℕ). Contains (words_of n j) v) same (in_words n v s.word)) (is_earlier v w e)

  fails_not : (words : List (List ℕ)) (w : List ℕ) → ((v : List ℕ) → Contains words v → SameCoset n (word_channel n w) (word_channel n v) → ⊥) → not (has_word n (word_channel n w) words) ≡ true
  fails_not words w none = elim (cases_Bool (has_word n (word_channel n w) words)) [
    | inl t ↦ (let found = (has_decided n (word_channel n w) words).0 t in absurd (none found.0 found.1 found.2))
    | inr f ↦ ap not f
  ]

  is_free : (w : List ℕ) → IsLevelWord n k w → free w ≡ true
  is_free w h =
      let a = fails_not (shorter_words n k) w (λ v c same. let b = from_shorter n k v c in let l = h.least.shortest v (record { word = b.0; coset = same }) in absurd (omega (arith, b.1, h.letters))) in
      let d = fails_not (earlier_words n k w) w (λ v c same.
      let f = from_filter (λ (u : List ℕ). is_lt (slice_cmp nat_cmp u w)) (words_of n k) v c in
      let b = from_words n k v f.0 in
      h.least.first v (record { word = b.0; coset = same }) (b.1 ∙ sym h.letters) (earlier_is v w f.1)) in
      both a d
    where
      both : {a b : Bool} → a ≡ true → b ≡ true → (a && b) ≡ true
      both e f = λ i. e i && f i

  pub level_is_filter : IsLevel n k (level n k)
  unfolding level
  level_is_filter = record {
    rises = IsStrictlySortedBy-filter (slice_cmp nat_cmp) free (words_of n k) (words_rise n k);
    members = λ w. (
      λ c. (let f = from_filter free (words_of n k) w c in let h = from_words n k w f.0 in passes w h.0 h.1 f.1),
      λ h. in_filter free (words_of n k) w (subst (λ (j : ℕ). Contains (words_of n j) w) h.letters (in_words n w h.least.member.word)) (is_free w h),
    );
  }
