-- A letter that comes again in a word, letter by letter, and that such a candidate isn't offered.
use Rattle.std.proofs.Common.{◌≡◌, ◌≢◌, ◌↔◌, ℕ, true, false, true≢false, ◌&&◌, nat_eq, ◌+◌, ◌≤◌, List, [], ◌∷◌, ◌++◌, length, drop, get_or, slice_get, Some, IsTrue, refl, ap, sym, ◌∙◌, subst, arith, length-drop}
use Rattle.std.specs.List.{AllByRecursion}
use Rattle.std.proofs.lemmas.Bool.{eq-eqb}
use Rattle.std.proofs.lemmas.List.Elements.{All-from_recursion, recursion_from_All}
use Rattle.pauli_basis.specs.Products.{commute}
use Rattle.coset_words.proofs.Fronts.{drop_at}
use Rattle.level_laws.specs.Levels.{ComesAgain}
use Rattle.level_laws.proofs.Repeats.{repeat_not_offered}
use Rattle.level_store.specs.declared.levels.Levels.{Levels}
use Rattle.level_store.specs.Stored.{qubits_of_all}
use Rattle.level_store.specs.Filling.{height_of, TellsNew}

-- Paulis that aren't equal have different codes
pub other_code : (a b x y : ℕ) → a ≡ b → (nat_eq a b && nat_eq x y) ≡ false → x ≢ y
other_code a b x y e apart same = true≢false (sym (λ i. eq-eqb a b e i && eq-eqb x y same i) ∙ apart)

-- all letters but the first
abbrev tail : List ℕ → List ℕ
tail [] = []
tail (q ∷ word) = word

module _ (n p : ℕ) where
  -- ---- at the first letter
  -- no letter comes again in the empty word
  none_again : (word : List ℕ) → length word ≡ 0 → ComesAgain n p word → ⊥
  none_again word e again = by again.front again.is
    where
      by : (front : List ℕ) → word ≡ front ++ p ∷ again.back → ⊥
      by [] is = absurd (omega (arith, e, ap length is))
      by (q ∷ front) is = absurd (omega (arith, e, ap length is))

  -- the first letter itself
  first_again : (word : List ℕ) → ComesAgain n p (p ∷ word)
  first_again word = record { front = []; back = word; is = refl; commuting = All-from_recursion (λ q. commute n p q ≡ true) [] tt }

  -- behind a letter that commutes with it
  behind_again : (q : ℕ) (word : List ℕ) → commute n p q ≡ true → ComesAgain n p word → ComesAgain n p (q ∷ word)
  behind_again q word e again = record {
    front = q ∷ again.front;
    back = again.back;
    is = ap (λ w. q ∷ w) again.is;
    commuting = All-from_recursion (λ x. commute n p x ≡ true) (q ∷ again.front) (e, recursion_from_All (λ x. commute n p x ≡ true) again.front again.commuting);
  }

  -- and behind another letter only where that commutes with it
  again_behind : (q : ℕ) (word : List ℕ) → q ≢ p → ComesAgain n p (q ∷ word) → (commute n p q ≡ true) × ComesAgain n p word
  again_behind q word other again = by again.front again.is (recursion_from_All (λ x. commute n p x ≡ true) again.front again.commuting)
    where
      by : (front : List ℕ) → q ∷ word ≡ front ++ p ∷ again.back → AllByRecursion (λ x. commute n p x ≡ true) front → (commute n p q ≡ true) × ComesAgain n p word
      by [] is h = absurd (other (ap (λ l. get_or l 0 0) is))
      by (x ∷ front) is h = (
        subst (λ y. commute n p y ≡ true) (sym (ap (λ l. get_or l 0 0) is)) h.0,
        record { front = front; back = again.back; is = ap tail is; commuting = All-from_recursion (λ x. commute n p x ≡ true) front h.1 },
      )

  -- ---- at each letter in turn
  module _ (letters : List ℕ) (i : ℕ) (left : ComesAgain n p letters ↔ ComesAgain n p (drop i letters)) where
    module _ (q : ℕ) (at : slice_get letters i ≡ Some q) where
      -- the letter itself
      pub found_again : q ≡ p → IsTrue true ↔ ComesAgain n p letters
      found_again same = (λ t. left.1 (subst (ComesAgain n p) (sym (drop_at letters i q at)) (subst (λ x. ComesAgain n p (x ∷ drop (i + 1) letters)) (sym same) (first_again (drop (i + 1) letters)))), λ a. refl)

      rest_again : q ≢ p → ComesAgain n p letters → (commute n p q ≡ true) × ComesAgain n p (drop (i + 1) letters)
      rest_again other again = again_behind q (drop (i + 1) letters) other (subst (ComesAgain n p) (drop_at letters i q at) (left.0 again))

      -- another that doesn't commute with it
      pub stopped_again : q ≢ p → commute n p q ≡ false → IsTrue false ↔ ComesAgain n p letters
      stopped_again other anti = (λ f. absurd (true≢false (sym f)), λ a. absurd (true≢false (sym (rest_again other a).0 ∙ anti)))

      -- another that does
      pub passed_again : q ≢ p → commute n p q ≡ true → ComesAgain n p letters ↔ ComesAgain n p (drop (i + 1) letters)
      passed_again other commutes = (λ a. (rest_again other a).1, λ a. left.1 (subst (ComesAgain n p) (sym (drop_at letters i q at)) (behind_again q (drop (i + 1) letters) commutes a)))

    -- no letter is left
    pub ended_again : length letters ≤ i → IsTrue false ↔ ComesAgain n p letters
    ended_again past = (λ f. absurd (true≢false (sym f)), λ a. absurd (none_again (drop i letters) (omega (arith, past, length-drop i letters)) (left.0 a)))

-- ---- such a candidate isn't offered
pub repeat_tells : (s : Levels) (p : ℕ) (word : List ℕ) → ComesAgain (qubits_of_all s) p word → TellsNew s (p ∷ word) false
repeat_tells s p word again candidate = (λ f. absurd (true≢false (sym f)), λ o. absurd (repeat_not_offered (qubits_of_all s) s.levels.some s.levels.few (height_of s) p word again o))
