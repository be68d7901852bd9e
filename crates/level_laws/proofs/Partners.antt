-- Lemmas for the crates above: two candidates of one coset, and turns that make each candidate once.
use Rattle.std.proofs.Common.{◌≡◌, ◌≢◌, ◌↔◌, ℕ, Bool, true, false, not, ◌&&◌, ◌==◌, cond, ◌+◌, ◌-◌, ◌*◌, ◌/◌, ◌%◌, ◌^◌, ◌<◌, ◌≤◌, ◌⊎◌, List, [], ◌∷◌, ◌++◌, length, map, Option, None, Some, nat_lt, Decides, Contains, IsPermutation, slice_index_or, refl, sym, ap, ◌∙◌, subst, inl, inr, arith, true≢false, append-nil}
use Rattle.std.specs.List.{range_with_len, position, position_or_len}
use Rattle.std.specs.Option.{option_map}
use Rattle.std.specs.Str.{bytes_eq}
use Rattle.std.proofs.lemmas.Bool.{cases_eq, cases_lt, cases_order, and_parts, and_from}
use Rattle.std.proofs.lemmas.Bool.Decides.{nat_tests}
use Rattle.std.proofs.lemmas.Nat.{div-mul-add, mod-mul-add, mul-add-lt, div-add-mod', mod_below}
use Rattle.std.proofs.Math.Nat.{mul_comm}
use Rattle.std.proofs.lemmas.Grind.{flat_map-append}
use Rattle.std.proofs.lemmas.List.Concat.{flat_map-cons}
use Rattle.std.proofs.lemmas.List.Quantifiers.{position-Some}
use Rattle.std.proofs.lemmas.List.Sums.{position_or_len_is}
use Rattle.std.proofs.lemmas.Slice.Eq.{bytes_eq-Decides}
use Rattle.pauli_basis.specs.Products.{commute}
use Rattle.pauli_basis.proofs.Products.{commute-swap}
use Rattle.channel_rep.specs.Tables.{SameTable}
use Rattle.channel_rep.specs.Words.{IsWord}
use Rattle.coset_label.specs.Cosets.{SameCosetWords}
use Rattle.coset_label.specs.Words.{word_channel}
use Rattle.coset_label.proofs.OneCoset.{same_coset_sym, same_coset_of_same}
use Rattle.word_laws.proofs.Exchanges.{words_exchange}
use Rattle.coset_label.specs.Order.{IsEarlier}
use Rattle.level_laws.specs.Levels.{IsLevelWord, IsLevel, IsCandidate, IsOffered, IsOfferTest, StandsIn, letter_at, word_at, candidate_at, offers_of}
use Rattle.level_laws.specs.Laws.{ArePartners}
use Rattle.level_laws.specs.Turns.{place_of, may_exchange, partner_of, partner_at, turn_beside, turn_of, turns_of}
use Rattle.level_laws.proofs.Earlier.{earlier_irrefl}
use Rattle.level_laws.proofs.Finding.{found_of_coset}
use Rattle.level_laws.proofs.Growth.{candidate_word}
use Rattle.level_laws.proofs.Offers.{offers_of-append}
use Rattle.level_laws.proofs.Pairs.{turns_once}
use Rattle.level_laws.proofs.Positions.{some_letters, letter_good, level_word, words_rise, position_word, candidate_is}

-- ---- places
-- the word at a place
pub place_some : (words : List (List ℕ)) (w : List ℕ) (i : ℕ) → place_of words w ≡ Some i → (i < length words) × (slice_index_or words i [] ≡ w)
place_some words w i e =
    let at = position-Some (λ v. bytes_eq v w) words i [] e in
    (at.0, (bytes_eq-Decides (slice_index_or words i []) w).0 at.1)

-- where the word doesn't stand there is no place
pub place_none : (words : List (List ℕ)) (w : List ℕ) → ((i : ℕ) → i < length words → slice_index_or words i [] ≡ w → ⊥) → place_of words w ≡ None
place_none words w nowhere = by (place_of words w) refl
  where
    by : (o : Option ℕ) → place_of words w ≡ o → place_of words w ≡ None
    by None e = e
    by (Some i) e = let at = place_some words w i e in absurd (nowhere i at.0 at.1)

module _ (n k : ℕ) (words : List (List ℕ)) (level : IsLevel n k words) where
  -- no two places have the same word
  same_place : (i j : ℕ) → i < length words → j < length words → slice_index_or words i [] ≡ slice_index_or words j [] → i ≡ j
  same_place i j li lj e = elim (cases_order i j) [
    | inl same ↦ same
    | inr (inl l) ↦ absurd (earlier_irrefl (slice_index_or words j []) (subst (λ w. IsEarlier w (slice_index_or words j [])) e (words_rise n k words level i j l lj)))
    | inr (inr g) ↦ absurd (earlier_irrefl (slice_index_or words i []) (subst (λ w. IsEarlier w (slice_index_or words i [])) (sym e) (words_rise n k words level j i g li)))
  ]

  -- so the place of a word is where it stands
  pub place_is : (w : List ℕ) (i : ℕ) → i < length words → slice_index_or words i [] ≡ w → place_of words w ≡ Some i
  place_is w i l e =
      let p : List ℕ → Bool = λ v. bytes_eq v w in
      let at : position_or_len p words ≡ i = position_or_len_is p words i [] (omega arith)
      (λ j m. fails (bytes_eq (slice_index_or words j []) w) (bytes_eq-Decides (slice_index_or words j []) w) (λ f. let z = same_place j i (omega arith) l (f ∙ sym e) in omega (arith, m, z)))
      (λ _. (bytes_eq-Decides (slice_index_or words i []) w).1 e) in
      ap (λ j. cond (nat_lt j (length words)) (Some j) None) at ∙ ap (λ b. cond b (Some i) None) (let t : nat_lt i (length words) ≡ true = grind (arith, nat_tests, l) in t)
    where
      fails : {P : Type 0} (b : Bool) → Decides b P → (P → ⊥) → b ≡ false
      fails true d none = absurd (none (d.0 refl))
      fails false d none = refl

-- ---- the parts of a partner
none_some : (b : ℕ) → None ≡ Some b → ⊥
none_some b e = cc

some_same : (a b : ℕ) → Some a ≡ Some b → a ≡ b
some_same a b e = cc

record IsExchanged (n : ℕ) (words : List (List ℕ)) (p : ℕ) (w : List ℕ) (x : ℕ) : Type 0 where
  letter : ℕ
  rest : List ℕ
  place : ℕ
  is : w ≡ letter ∷ rest
  may : may_exchange n p letter ≡ true
  at : place_of words (p ∷ rest) ≡ Some place
  position : place * (4 ^ n - 1) + (letter - 1) ≡ x

exchanged : (n : ℕ) (words : List (List ℕ)) (p : ℕ) (w : List ℕ) (x : ℕ) → partner_of n words p w ≡ Some x → IsExchanged n words p w x
exchanged n words p [] x e = absurd (none_some x e)
exchanged n words p (q ∷ r) x e = by (may_exchange n p q) refl (place_of words (p ∷ r)) refl
  where
    by : (b : Bool) → may_exchange n p q ≡ b → (o : Option ℕ) → place_of words (p ∷ r) ≡ o → IsExchanged n words p (q ∷ r) x
    by false m o a = absurd (none_some x (sym (ap (λ b. cond b (option_map (λ place. place * (4 ^ n - 1) + (q - 1)) (place_of words (p ∷ r))) None) m) ∙ e))
    by true m None a = absurd (none_some x ((λ i. cond (sym m i) (option_map (λ place. place * (4 ^ n - 1) + (q - 1)) (sym a i)) None) ∙ e))
    by true m (Some i) a = record {
      letter = q;
      rest = r;
      place = i;
      is = refl;
      may = m;
      at = a;
      position = some_same _ x ((λ j. cond (sym m j) (option_map (λ place. place * (4 ^ n - 1) + (q - 1)) (sym a j)) None) ∙ e);
    }

-- letters that may change places may change back
exchange_back : (n p q : ℕ) → may_exchange n p q ≡ true → may_exchange n q p ≡ true
exchange_back n p q e =
    let parts = and_parts (not (p == q)) (commute n p q) e in
    and_from (not (q == p)) (commute n q p) (let a = parts.0 in grind (arith, nat_tests)) (commute-swap n q p ∙ parts.1)

exchange_other : (n p q : ℕ) → may_exchange n p q ≡ true → p ≢ q
exchange_other n p q e = let a = (and_parts (not (p == q)) (commute n p q) e).0 in λ same. apart same a
  where
    apart : p ≡ q → not (p == q) ≡ true → ⊥
    apart same a = true≢false (sym a ∙ ap not (let t : (p == q) ≡ true = grind (arith, nat_tests) in t))

-- what is offered of a coset is offered of each candidate in it
offered_beside : (n k : ℕ) (u v : List ℕ) → IsCandidate n k v → SameCosetWords n u v → IsOffered n k u → IsOffered n k v
offered_beside n k u v c same o = record { candidate = c; not_here = λ s. o.not_here (moved k s); not_below = λ j e s. o.not_below j e (moved j s) }
  where
    moved : (j : ℕ) → StandsIn n j (word_channel n v) → StandsIn n j (word_channel n u)
    moved j s = (s.0, found_of_coset n j (word_channel n v) (word_channel n u) s.0 (same_coset_sym n _ _ same) s.1)

-- two truth values of facts that say the same
same_truth : {P Q : Type 0} (a b : Bool) → Decides a P → Decides b Q → P ↔ Q → a ≡ b
same_truth true true d e same = refl
same_truth true false d e same = absurd (true≢false (sym (e.1 (same.0 (d.0 refl)))))
same_truth false true d e same = absurd (true≢false (sym (d.1 (same.1 (e.0 refl)))))
same_truth false false d e same = refl

-- ---- partners
module _ (n : ℕ) (some : 0 < n) (few : n ≤ 3) (k : ℕ) (words : List (List ℕ)) (level : IsLevel n k words) where
  abbrev size : ℕ
  size = 4 ^ n - 1

  module _ (y x : ℕ) (low : y < length words * size) (e : partner_at n words y ≡ Some x) where
    abbrev p : ℕ
    p = letter_at n y

    parts : IsExchanged n words p (word_at n words y) x
    parts = exchanged n words p (word_at n words y) x e

    whole : IsWord n (p ∷ parts.letter ∷ parts.rest)
    whole = (letter_good n some y, subst (IsWord n) parts.is (level_word n k words level (y / size) (position_word n some k words level y low)).least.member.word)

    beside : parts.letter - 1 < size
    beside = let g = whole.1.0 in omega (arith, g.0, g.1, some_letters n some)

    placed : (parts.place < length words) × (slice_index_or words parts.place [] ≡ p ∷ parts.rest)
    placed = place_some words (p ∷ parts.rest) parts.place parts.at

    -- the parts of the partner
    partner_word : word_at n words x ≡ p ∷ parts.rest
    partner_word = ap (λ z. slice_index_or words (z / size) []) (sym parts.position) ∙ (ap (λ i. slice_index_or words i []) (div-mul-add parts.place size (parts.letter - 1) beside) ∙ placed.1)

    partner_letter : letter_at n x ≡ parts.letter
    partner_letter = ap (λ z. z % size + 1) (sym parts.position) ∙ (ap (λ r. r + 1) (mod-mul-add parts.place size (parts.letter - 1) beside) ∙ up (whole.1.0).1)
      where
        up : parts.letter ≢ 0 → parts.letter - 1 + 1 ≡ parts.letter
        up g = omega (arith, g)

    partner_below : x < length words * size
    partner_below = omega (arith, parts.position, mul-add-lt parts.place size (parts.letter - 1) (length words) placed.0 beside, mul_comm size (length words))

    -- the partner's partner
    partner_back : partner_at n words x ≡ Some y
    partner_back =
        let own : place_of words (parts.letter ∷ parts.rest) ≡ Some (y / size) = place_is n k words level (parts.letter ∷ parts.rest) (y / size) (position_word n some k words level y low) parts.is in
        let may = exchange_back n p parts.letter parts.may in
        let at : y / size * size + (p - 1) ≡ y = omega (arith, div-add-mod' y size) in
        (λ i. partner_of n words (partner_letter i) (partner_word i))
        ∙ ((λ i. cond (may i) (option_map (λ place. place * (4 ^ n - 1) + (p - 1)) (own i)) None) ∙ ap Some at)

    partner_other : x ≢ y
    partner_other same = exchange_other n p parts.letter parts.may (sym (ap (letter_at n) same) ∙ partner_letter)

    partner_channels : SameTable n (word_channel n (candidate_at n words y)) (word_channel n (candidate_at n words x))
    partner_channels =
        let commuting = (and_parts (not (p == parts.letter)) (commute n p parts.letter) parts.may).1 in
        subst (λ (z : List ℕ × List ℕ). SameTable n (word_channel n z.0) (word_channel n z.1)) (λ i. (p ∷ sym parts.is i, sym partner_letter i ∷ sym partner_word i))
        (words_exchange n p parts.letter [] parts.rest commuting whole)

    partner_coset : SameCosetWords n (candidate_at n words y) (candidate_at n words x)
    partner_coset = same_coset_of_same n _ _ partner_channels

    pub are_partners : ArePartners n k words y x
    are_partners = record {
      below = partner_below;
      back = partner_back;
      other = partner_other;
      channels = partner_channels;
      coset = partner_coset;
      offered = (offered_beside n k _ _ (candidate_is n some k words level x partner_below) partner_coset, offered_beside n k _ _ (candidate_is n some k words level y low) (same_coset_sym n _ _ partner_coset));
    }

  -- so the turns of all positions are all positions
  pub turns_all : (positions : List ℕ) → IsPermutation (range_with_len 0 (length words * size)) positions → IsPermutation (range_with_len 0 (length words * size)) (turns_of n words positions)
  turns_all =
      turns_once (partner_at n words) (length words * size) (λ y x low e. (are_partners y x low e).below) (λ y x low e. (are_partners y x low e).back) (λ y x low e. (are_partners y x low e).other)

  -- ---- what turns offer
  module _ (test : ℕ → Bool) (tells : IsOfferTest n k words test) (y : ℕ) (low : y < length words * size) where
    -- partners are offered both or not at all
    test_partner : (x : ℕ) → partner_at n words y ≡ Some x → test x ≡ test y
    test_partner x e =
        let are = are_partners y x low e in
        same_truth (test x) (test y) (tells x are.below) (tells y low) (are.offered.1, are.offered.0)

    offered_in : (o : Option ℕ) → partner_at n words y ≡ o → (b : Bool) → test y ≡ b → offers_of n words test (turn_beside y o) ≡ cond b (map (candidate_at n words) (turn_beside y o)) []
    offered_in None e true t = ap (λ c. map (candidate_at n words) (cond c (y ∷ []) [])) t
    offered_in None e false t = ap (λ c. map (candidate_at n words) (cond c (y ∷ []) [])) t
    offered_in (Some x) e b t = both (nat_lt y x) b (test_partner x e ∙ t) t
      where
        both : (l b : Bool) → test x ≡ b → test y ≡ b → offers_of n words test (cond l (y ∷ x ∷ []) []) ≡ cond b (map (candidate_at n words) (cond l (y ∷ x ∷ []) [])) []
        both true true u t = (λ i. map (candidate_at n words) (cond (t i) (y ∷ cond (u i) (x ∷ []) []) (cond (u i) (x ∷ []) [])))
        both true false u t = (λ i. map (candidate_at n words) (cond (t i) (y ∷ cond (u i) (x ∷ []) []) (cond (u i) (x ∷ []) [])))
        both false true u t = refl
        both false false u t = refl

    -- a turn more
    pub turn_more : (done : List ℕ) (b : Bool) → test y ≡ b → offers_of n words test (turns_of n words (done ++ y ∷ []))
        ≡ offers_of n words test (turns_of n words done) ++ cond b (map (candidate_at n words) (turn_of n words y)) []
    turn_more done b t =
        ap (offers_of n words test) (flat_map-append (turn_of n words) done (y ∷ []) ∙ ap (λ l. turns_of n words done ++ l) (flat_map-cons (turn_of n words) y [] ∙ append-nil (turn_of n words y)))
        ∙ (offers_of-append n words test (turns_of n words done) (turn_of n words y)
        ∙ ap (λ l. offers_of n words test (turns_of n words done) ++ l) (offered_in (partner_at n words y) refl b t))
