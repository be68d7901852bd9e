-- The fronts of least words, and those that are tried at a total.
use Rattle.std.proofs.Common.{◌≡◌, ℕ, zero, suc, ◌+◌, ◌-◌, ◌*◌, ◌^◌, ◌<◌, ◌≤◌, List, [], ◌∷◌, ◌++◌, length, slice_index_or, refl, ap, sym, ◌∙◌, subst, arith, length-append}
use Rattle.channel_rep.specs.Tables.{ScaledTable}
use Rattle.channel_rep.specs.Words.{IsWord}
use Rattle.coset_label.specs.Words.{word_channel}
use Rattle.coset_label.proofs.OneCoset.{same_coset_trans}
use Rattle.coset_label.specs.Order.{IsEarlier}
use Rattle.level_laws.specs.Levels.{IsInCoset, IsLeastWord, IsLevelWord, IsLevel, letter_at, word_at, front_at}
use Rattle.level_laws.proofs.Cosets.{word_front, word_behind, word_both}
use Rattle.level_laws.proofs.LeastWords.{own_coset}
use Rattle.level_laws.proofs.Positions.{words_rise, word_index, position_of, fronts_rise, even_front, odd_front}
use Rattle.meet_laws.proofs.Follow.{follow}
use Rattle.meet_laws.proofs.Parts.{prefix_least}

-- ---- the front of a least word
module _ (n : ℕ) (some : 0 < n) (few : n ≤ 3) (m : ScaledTable) (a b : List ℕ) (least : IsLeastWord n m (a ++ b)) where
  -- it is the least word of its own coset
  pub front_least : IsLevelWord n (length a) a
  front_least =
      let hb = word_behind n a b least.member.word in
      let ha = word_front n a b least.member.word in
      record {
        letters = refl;
        least = prefix_least (IsInCoset n m) (IsInCoset n (word_channel n a)) a b
            (λ v s.
            let y = follow n some few a v b ha s.word hb s.coset in
            (y.0, y.2, record { word = word_both n v y.0 s.word y.1; coset = same_coset_trans n m _ _ least.member.coset y.3 }))
            (own_coset n a ha) least;
      }

-- ---- a word of two parts
pub record IsSplit (t : ℕ) (u : List ℕ) : Type 0 where
  pub front : List ℕ
  pub back : List ℕ
  pub long : length front ≡ t
  pub is : front ++ back ≡ u

pub split : (t : ℕ) (u : List ℕ) → t ≤ length u → IsSplit t u
split zero u l = record { front = []; back = u; long = refl; is = refl }
split (suc t) [] l = absurd (omega arith)
split (suc t) (p ∷ u) l = more (split t u (omega arith))
  where
    more : IsSplit t u → IsSplit (suc t) (p ∷ u)
    more s = record { front = p ∷ s.front; back = s.back; long = ap suc s.long; is = ap (λ (x : List ℕ). p ∷ x) s.is }

-- the fronts that are tried at a total, in order: all of one length, and each front of a least word among them
pub record AreFronts (n f count : ℕ) (front : ℕ → List ℕ) : Type 0 where
  pub word : (i : ℕ) → i < count → IsWord n (front i)
  pub long : (i : ℕ) → i < count → length (front i) ≡ f
  pub rises : (i j : ℕ) → i < j → j < count → IsEarlier (front i) (front j)
  pub covers : (m : ScaledTable) (a b : List ℕ) → length a ≡ f → IsLeastWord n m (a ++ b) → (i : ℕ) × (i < count) × (front i ≡ a)

-- ---- even totals: the words of a level are the fronts
pub even_fronts : (n : ℕ) → 0 < n → n ≤ 3 → (h : ℕ) (words : List (List ℕ)) → IsLevel n h words → AreFronts n h (length words) (λ i. slice_index_or words i [])
even_fronts n some few h words level = record {
  word = λ i l. (even_front n h words level i l).word;
  long = λ i l. (even_front n h words level i l).long;
  rises = λ i j l m. words_rise n h words level i j l m;
  covers = λ m a b long least. word_index n h words level a (subst (λ k. IsLevelWord n k a) long (front_least n some few m a b least));
}

-- ---- odd totals: each word of the level with each letter behind it
-- one letter
one_letter_of : (b : List ℕ) → length b ≡ 1 → (p : ℕ) × (b ≡ p ∷ [])
one_letter_of [] e = absurd (omega arith)
one_letter_of (p ∷ []) e = (p, refl)
one_letter_of (p ∷ q ∷ b) e = absurd (omega arith)

-- a word and a letter that are those of a front
spelled : (word front back a : List ℕ) (letter p : ℕ) → word ≡ front → letter ≡ p → back ≡ p ∷ [] → front ++ back ≡ a → word ++ letter ∷ [] ≡ a
spelled word front back a letter p e d last whole = (λ i. e i ++ d i ∷ []) ∙ ap (λ (z : List ℕ). front ++ z) (sym last) ∙ whole

pub odd_fronts : (n : ℕ) → 0 < n → n ≤ 3 → (h : ℕ) (words : List (List ℕ)) → IsLevel n h words → AreFronts n (h + 1) (length words * (4 ^ n - 1)) (front_at n words)
odd_fronts n some few h words level = record {
  word = λ i l. (odd_front n some h words level i l).word;
  long = λ i l. (odd_front n some h words level i l).long;
  rises = λ i j l m. fronts_rise n some h words level i j l m;
  covers = λ m a b long least. covers m a b long least (split h a (omega arith));
}
  where
    covers : (m : ScaledTable) (a b : List ℕ) → length a ≡ h + 1 → IsLeastWord n m (a ++ b) → IsSplit h a → (i : ℕ) × (i < length words * (4 ^ n - 1)) × (front_at n words i ≡ a)
    covers m a b long least s = by (one_letter_of s.back (omega (arith, length-append s.front s.back, ap length s.is, s.long)))
      where
        by : (p : ℕ) × (s.back ≡ p ∷ []) → (i : ℕ) × (i < length words * (4 ^ n - 1)) × (front_at n words i ≡ a)
        by last =
            let whole = front_least n some few m a b least in
            let parts : IsLeastWord n (word_channel n a) (s.front ++ s.back) = subst (IsLeastWord n (word_channel n a)) (sym s.is) whole.least in
            let front = subst (λ k. IsLevelWord n k s.front) s.long (front_least n some few (word_channel n a) s.front s.back parts) in
            let good = (word_behind n s.front (last.0 ∷ []) (subst (λ (z : List ℕ). IsWord n (s.front ++ z)) last.1 parts.member.word)).0 in
            let at = position_of n some h words level last.0 s.front good front in
            (at.0, at.1, spelled (word_at n words at.0) s.front s.back a (letter_at n at.0) last.0 at.2 at.3 last.1 s.is)
