-- A letter is brought to the front of a word, past letters that commute with it.
use Rattle.std.proofs.Common.{◌≡◌, ◌≢◌, ℕ, suc, ◌+◌, ◌-◌, ◌^◌, ◌<◌, ◌≤◌, Bool, true, false, true≢false, ◌&&◌, nat_eq, List, [], ◌∷◌, ◌++◌, length, take, drop, slice_get, Some, ap, sym, ◌∙◌, subst, arith, append_assoc, length-append, length-drop, append-nil}
use Rattle.std.specs.List.{AllByRecursion}
use Rattle.std.proofs.Math.Seq.{drop-cons, take-length, take-suc}
use Rattle.std.proofs.lemmas.Bool.{eqb-true}
use Rattle.std.proofs.lemmas.List.Elements.{All-from_recursion}
use Rattle.std.proofs.lemmas.Option.{get_or_from_slice_get, slice_get_within}
use Rattle.pauli_basis.specs.Products.{commute}
use Rattle.channel_rep.specs.Words.{IsWord}
use Rattle.coset_label.specs.Cosets.{SameCosetWords}
use Rattle.coset_label.proofs.OneCoset.{coset_refl, coset_trans}
use Rattle.word_laws.proofs.Exchanges.{cosets_exchange}

-- ---- letters one by one
module _ (letters : List ℕ) (i code : ℕ) (h : slice_get letters i ≡ Some code) where
  next : suc i ≡ i + 1
  next = omega arith

  -- the letter at a place is the first of those from there on
  pub drop_at : drop i letters ≡ code ∷ drop (i + 1) letters
  drop_at = drop-cons letters i code (slice_get_within letters i code h) ∙ (λ k. get_or_from_slice_get letters i code code h k ∷ drop (next k) letters)

  -- and the last of those up to there
  pub take_at : (rest : List ℕ) → take (i + 1) letters ++ rest ≡ take i letters ++ code ∷ rest
  take_at rest =
      ap (λ k. take k letters ++ rest) (sym next)
      ∙ ap (λ z. z ++ rest) (take-suc letters i code (slice_get_within letters i code h) ∙ ap (λ x. take i letters ++ x ∷ []) (get_or_from_slice_get letters i code code h))
      ∙ append_assoc (take i letters) (code ∷ []) rest

  -- it moves from the letters that are left to the end of those before
  pub moved : (front : List ℕ) → (front ++ code ∷ []) ++ drop (i + 1) letters ≡ front ++ drop i letters
  moved front = append_assoc front (code ∷ []) (drop (i + 1) letters) ∙ ap (λ z. front ++ z) (sym drop_at)

  -- and it is a Pauli other than the identity
  pub letter_is : (n : ℕ) → IsWord n letters → (code < 4 ^ n) × (code ≢ 0)
  letter_is n is =
      subst (λ p. (p < 4 ^ n) × (p ≢ 0)) (get_or_from_slice_get letters i code code h)
      (All-from_recursion (λ p. (p < 4 ^ n) × (p ≢ 0)) letters is i code (slice_get_within letters i code h))

-- while letters are left, a word has room for one more
pub room_left : (joined front letters : List ℕ) (i from most : ℕ) → joined ++ drop i letters ≡ front ++ drop from letters → i < length letters → from ≤ length letters → length front + (length letters - from) ≤ most → length joined < most
room_left joined front letters i from most e l le room = omega (arith, ap length e, length-append joined (drop i letters), length-append front (drop from letters), length-drop i letters, length-drop from letters)

-- Paulis that are equal have one code
pub one_code : (a : Bool) (x y : ℕ) → (a && nat_eq x y) ≡ true → x ≡ y
one_code true x y e = eqb-true x y e
one_code false x y e = absurd (true≢false (sym e))

-- ---- a letter at the front
-- each letter commutes with P
abbrev pub AllCommute : ℕ → ℕ → List ℕ → Type 0
AllCommute n p letters = AllByRecursion (λ q. commute n q p ≡ true) letters

-- the letters with one of them at the front are a word
pub word_front : (n p : ℕ) (before after : List ℕ) → IsWord n (before ++ p ∷ after) → IsWord n (p ∷ (before ++ after))
word_front n p [] after is = is
word_front n p (x ∷ before) after is = let rest = word_front n p before after is.1 in (rest.0, (is.0, rest.1))

-- past letters that commute with it a letter comes to the front
pub brought_front : (n p : ℕ) (before after front : List ℕ) → AllCommute n p before → IsWord n (before ++ p ∷ after) → SameCosetWords n (front ++ (before ++ p ∷ after)) (front ++ p ∷ (before ++ after))
brought_front n p [] after front h is = coset_refl n (front ++ p ∷ after)
brought_front n p (x ∷ before) after front h is =
    coset_trans n (front ++ x ∷ (before ++ p ∷ after)) (front ++ x ∷ p ∷ (before ++ after)) (front ++ p ∷ x ∷ (before ++ after))
    (subst (λ (e : List ℕ × List ℕ). SameCosetWords n e.0 e.1) (λ i. (append_assoc front (x ∷ []) (before ++ p ∷ after) i, append_assoc front (x ∷ []) (p ∷ (before ++ after)) i))
    (brought_front n p before after (front ++ x ∷ []) h.1 is.1))
    (cosets_exchange n x p front (before ++ after) h.0 (is.0, word_front n p before after is.1))

-- all letters up to the end, and none behind, are the word
pub none_left : (letters rest : List ℕ) (i : ℕ) → length letters ≤ i → length rest + i ≡ length letters → take i letters ++ rest ≡ letters
none_left letters [] i le e = let whole : i ≡ length letters = omega arith in append-nil (take i letters) ∙ ap (λ k. take k letters) whole ∙ take-length letters
none_left letters (p ∷ rest) i le e = absurd (omega arith)
