-- The place of a word among a level's words, as a search among their numbers finds it.
use Rattle.std.proofs.Common.{◌≡◌, ◌≢◌, ℕ, ◌^◌, ◌<◌, ◌≤◌, List, [], length, map, get_or, slice_index_or, All, Option, Some, None, Result, Ok, Err, refl, ap, sym, ◌∙◌, subst, arith, inl, inr}
use Rattle.std.specs.List.Sorted.{IsSearchInRange, IsBinarySearchResult, IsNonDecreasingBy}
use Rattle.std.specs.Ordering.{nat_cmp, ordering_index}
use Rattle.std.specs.declared.cmp.Ordering.{Ordering}
use Rattle.std.specs.declared.cmp.Ordering.TheVariants.{Less, Equal, Greater}
use Rattle.std.specs.Cmp.{nat_cmp_is}
use Rattle.std.proofs.lemmas.Bool.{cases_eq, cases_lt}
use Rattle.std.proofs.lemmas.Bool.Decides.{nat_tests}
use Rattle.std.proofs.lemmas.Cmp.{ranked}
use Rattle.std.proofs.lemmas.List.{get_or-map, length-map}
use Rattle.std.proofs.lemmas.Map.Lookups.{exact_bytes}
use Rattle.std.proofs.lemmas.List.Sorted.{IsNonDecreasingBy-from_default}
use Rattle.channel_rep.specs.Words.{IsWord}
use Rattle.coset_label.specs.Words.{RotationWord, packed}
use Rattle.coset_label.proofs.Digits.{order_is}
use Rattle.coset_label.proofs.PackedWords.{digits_below}
use Rattle.level_laws.specs.Levels.{IsLevel}
use Rattle.level_laws.specs.Turns.{place_of}
use Rattle.level_laws.proofs.Partners.{place_is, place_none}
use Rattle.level_laws.proofs.Positions.{level_word, words_rise}
use Rattle.level_store.specs.Contents.{letters_of_all}

-- a word's letters as one number
abbrev number_of : RotationWord → ℕ
number_of w = packed w.qubits w.letters

-- an answer of a search as a place
abbrev pub found_at : Result ℕ ℕ → Option ℕ
found_at (Ok i) = Some i
found_at (Err i) = None

module _ (n k : ℕ) (words : List RotationWord) (level : IsLevel n k (letters_of_all words)) (all : All (λ (w : RotationWord). w.qubits ≡ n) words)
    (w : RotationWord) (qubits : w.qubits ≡ n) (long : length w.letters ≡ k) (word : IsWord n w.letters)
  where
    letters_at : (i : ℕ) (d : RotationWord) → i < length words → slice_index_or (letters_of_all words) i [] ≡ (get_or words i d).letters
    letters_at i d lt = get_or-map (λ (v : RotationWord). v.letters) words i d [] lt

    wide : length (letters_of_all words) ≡ length words
    wide = length-map words (λ (v : RotationWord). v.letters)

    -- numbers compare as the letters do
    number_at : (i : ℕ) (d : RotationWord) → i < length words → number_of (get_or words i d) ≡ packed n (slice_index_or (letters_of_all words) i [])
    number_at i d lt = (λ j. packed (all i d lt j) (sym (letters_at i d lt) j))

    rise : (i j : ℕ) (d : RotationWord) → i < j → j < length words → number_of (get_or words i d) < number_of (get_or words j d)
    rise i j d less lt =
        let li : i < length words = omega (arith, less, lt) in
        let a = level_word n k (letters_of_all words) level i (omega (arith, li, wide)) in
        let b = level_word n k (letters_of_all words) level j (omega (arith, lt, wide)) in
        let v = slice_index_or (letters_of_all words) i [] in
        let z = slice_index_or (letters_of_all words) j [] in
        let earlier = words_rise n k (letters_of_all words) level i j less (omega (arith, lt, wide)) in
        let order = order_is (4 ^ n) 0 v z (digits_below n v a.least.member.word) (digits_below n z b.least.member.word) (a.letters ∙ sym b.letters) in
        let below : packed n v < packed n z = ranked (packed n v) (packed n z) Less (sym earlier ∙ order) in
        omega (arith, below, number_at i d li, number_at j d lt)

    -- the comparisons with the word rise
    comparisons_rise : IsNonDecreasingBy (λ v. ordering_index (nat_cmp (number_of v) (number_of w))) words
    comparisons_rise = IsNonDecreasingBy-from_default (λ v. ordering_index (nat_cmp (number_of v) (number_of w))) words w (λ i j le lt.
        let keys : number_of (get_or words i w) ≤ number_of (get_or words j w) = elim (cases_eq i j) [
          | inl same ↦ (let e : number_of (get_or words i w) ≡ number_of (get_or words j w) = ap (λ q. number_of (get_or words q w)) same in omega (arith, e))
          | inr other ↦ (let l = rise i j w (strict i j le other) lt in omega (arith, l))
        ] in
        grind (arith, nat_tests))
      where
        strict : (i j : ℕ) → i ≤ j → (i ≡ j → ⊥) → i < j
        strict i j le other = elim (cases_lt i j) [ inl l ↦ l | inr g ↦ absurd (other (omega (arith, le, g))) ]

    -- equal numbers are equal letters
    same_letters : (i : ℕ) → i < length words → number_of (get_or words i w) ≡ number_of w → slice_index_or (letters_of_all words) i [] ≡ w.letters
    same_letters i lt e =
        let v = slice_index_or (letters_of_all words) i [] in
        let a = level_word n k (letters_of_all words) level i (omega (arith, lt, wide)) in
        let same : packed n v ≡ packed n w.letters = sym (number_at i w lt) ∙ e ∙ ap (λ q. packed q w.letters) qubits in
        let order = order_is (4 ^ n) 0 v w.letters (digits_below n v a.least.member.word) (digits_below n w.letters word) (a.letters ∙ sym long) in
        exact_bytes v w.letters (order ∙ sym (nat_cmp_is (packed n v) (packed n w.letters) Equal same))

    -- a search by numbers finds the place
    pub search_places : (r : Result ℕ ℕ) → IsSearchInRange r (length words) → IsBinarySearchResult (λ v. nat_cmp (number_of v) (number_of w)) words r
        → found_at r ≡ place_of (letters_of_all words) w.letters
    search_places (Ok i) in_range equal =
        sym (place_is n k (letters_of_all words) level w.letters i (omega (arith, in_range, wide)) (same_letters i in_range (ranked (number_of (get_or words i w)) (number_of w) Equal (sym (equal w)))))
    search_places (Err i) in_range parted = sym (place_none (letters_of_all words) w.letters (λ j lt e. nowhere j (omega (arith, lt, wide)) e))
      where
        numbers : (j : ℕ) → j < length words → slice_index_or (letters_of_all words) j [] ≡ w.letters → number_of (get_or words j w) ≡ number_of w
        numbers j lt e = number_at j w lt ∙ (λ q. packed (sym qubits q) (e q))

        nowhere : (j : ℕ) → j < length words → slice_index_or (letters_of_all words) j [] ≡ w.letters → ⊥
        nowhere j lt e = elim (cases_lt j i) [
          | inl l ↦ (let s : number_of (get_or words j w) < number_of w = ranked _ (number_of w) Less (sym ((parted comparisons_rise).0 j w (omega arith) l)) in omega (arith, s, numbers j lt e))
          | inr g ↦ (let s : number_of w < number_of (get_or words j w) = ranked _ (number_of w) Greater (sym ((parted comparisons_rise).1 j w g lt)) in omega (arith, s, numbers j lt e))
        ]

    -- by a number and a list that are known to be these
    pub search_at : (key : ℕ) → key ≡ number_of w → (list : List RotationWord) → list ≡ words → (r : Result ℕ ℕ) → IsSearchInRange r (length list) → IsBinarySearchResult (λ v. nat_cmp (number_of v) key) list r
        → found_at r ≡ place_of (letters_of_all words) w.letters
    search_at key e list f r in_range searched =
        search_places r (subst (λ z. IsSearchInRange r (length z)) f in_range)
        (subst (λ (z : ℕ × List RotationWord). IsBinarySearchResult (λ v. nat_cmp (number_of v) z.0) z.1 r) (λ i. (e i, f i)) searched)
