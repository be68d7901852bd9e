-- What a turn makes, from what the code finds of a candidate's partner.
use Rattle.std.proofs.Common.{◌≡◌, ◌≢◌, ℕ, Bool, true, false, not, ◌&&◌, ◌==◌, ne_eqb, cond, ◌/◌, ◌%◌, slice_index_or, ◌+◌, ◌-◌, ◌*◌, ◌^◌, ◌<◌, ◌≤◌, List, [], ◌∷◌, ◌++◌, length, drop, Option, Some, None, slice_get, nat_lt, refl, ap, sym, ◌∙◌, subst, arith, length-append, length-drop}
use Rattle.std.specs.Option.{option_map}
use Rattle.std.proofs.lemmas.Bool.{and_from}
use Rattle.std.proofs.lemmas.Nat.{div-mul-add, mod-mul-add}
use Rattle.pauli_basis.specs.Products.{commute}
use Rattle.channel_rep.specs.Tables.{SameTable}
use Rattle.channel_rep.proofs.Built.{same_table_trans}
use Rattle.coset_label.specs.Words.{word_channel}
use Rattle.coset_words.specs.declared.mark.Mark.{Mark}
use Rattle.coset_words.specs.Marks.{IsMarkOf}
use Rattle.level_laws.specs.Levels.{letter_at, word_at, candidate_at}
use Rattle.level_laws.specs.Turns.{place_of, may_exchange, partner_of, partner_at, turn_of, turn_beside}
use Rattle.level_laws.proofs.Partners.{place_some}

-- a word that has a first letter
pub first_and_rest : (w : List ℕ) (q : ℕ) → slice_get w 0 ≡ Some q → w ≡ q ∷ drop 1 w
first_and_rest [] q e = absurd (none_some q e)
  where
    none_some : (b : ℕ) → None ≡ Some b → ⊥
    none_some b f = cc
first_and_rest (x ∷ w) q e = ap (λ z. z ∷ w) (some_same x q e)
  where
    some_same : (a b : ℕ) → Some a ≡ Some b → a ≡ b
    some_same a b f = cc

module _ (n : ℕ) (words : List (List ℕ)) (position p : ℕ) (w : List ℕ) (letter : p ≡ letter_at n position) (word : w ≡ word_at n words position) where
  partner_is : partner_at n words position ≡ partner_of n words p w
  partner_is = (λ i. partner_of n words (sym letter i) (sym word i))

  -- the empty word has no first letter
  pub alone_empty : w ≡ [] → turn_of n words position ≡ position ∷ []
  alone_empty e = ap (turn_beside position) (partner_is ∙ ap (partner_of n words p) e)

  module _ (q : ℕ) (r : List ℕ) (is : w ≡ q ∷ r) where
    -- the letters don't change places
    pub alone_apart : may_exchange n p q ≡ false → turn_of n words position ≡ position ∷ []
    alone_apart m =
        ap (turn_beside position) (partner_is ∙ (ap (partner_of n words p) is ∙ ap (λ b. cond b (option_map (λ place. place * (4 ^ n - 1) + (q - 1)) (place_of words (p ∷ r))) None) m))

    -- or what they make isn't of the level
    pub alone_nowhere : may_exchange n p q ≡ true → place_of words (p ∷ r) ≡ None → turn_of n words position ≡ position ∷ []
    alone_nowhere m o =
        ap (turn_beside position) (partner_is ∙ (ap (partner_of n words p) is ∙ (λ i. cond (m i) (option_map (λ place. place * (4 ^ n - 1) + (q - 1)) (o i)) None)))

    module _ (place : ℕ) (m : may_exchange n p q ≡ true) (o : place_of words (p ∷ r) ≡ Some place) (partner : ℕ) (at : partner ≡ place * (4 ^ n - 1) + (q - 1)) where
      pub partner_found : partner_at n words position ≡ Some partner
      partner_found = partner_is ∙ (ap (partner_of n words p) is ∙ ((λ i. cond (m i) (option_map (λ z. z * (4 ^ n - 1) + (q - 1)) (o i)) None) ∙ ap Some (sym at)))

      -- of partners the earlier makes both
      pub made_both : nat_lt position partner ≡ true → turn_of n words position ≡ position ∷ partner ∷ []
      made_both l = ap (turn_beside position) partner_found ∙ ap (λ b. cond b (position ∷ partner ∷ []) []) l

      pub made_nothing : nat_lt position partner ≡ false → turn_of n words position ≡ []
      made_nothing l = ap (turn_beside position) partner_found ∙ ap (λ b. cond b (position ∷ partner ∷ []) []) l

-- letters that differ and commute may change places
pub exchange_may : (n p q : ℕ) → q ≢ p → commute n p q ≡ true → may_exchange n p q ≡ true
exchange_may n p q apart e = and_from (not (p == q)) (commute n p q) (let a : (p == q) ≡ false = ne_eqb p q (λ f. apart (sym f)) in ap not a) e

-- the candidate of a letter before a word, by the word's place
pub candidate_of : (n : ℕ) (words : List (List ℕ)) (p q : ℕ) (r : List ℕ) (place partner : ℕ) → q < 4 ^ n → q ≢ 0 → place_of words (p ∷ r) ≡ Some place → partner ≡ place * (4 ^ n - 1) + (q - 1)
    → q ∷ p ∷ r ≡ candidate_at n words partner
candidate_of n words p q r place partner below other at e =
    let low : q - 1 < 4 ^ n - 1 = omega (arith, below, other) in
    let up : q - 1 + 1 ≡ q = omega (arith, other) in
    let letter : letter_at n partner ≡ q = ap (λ z. z % (4 ^ n - 1) + 1) e ∙ (ap (λ z. z + 1) (mod-mul-add place (4 ^ n - 1) (q - 1) low) ∙ up) in
    let word : word_at n words partner ≡ p ∷ r =
    ap (λ z. slice_index_or words (z / (4 ^ n - 1)) []) e ∙ (ap (λ i. slice_index_or words i []) (div-mul-add place (4 ^ n - 1) (q - 1) low) ∙ (place_some words (p ∷ r) place at).1) in
    (λ i. sym letter i ∷ sym word i)

-- while letters are left to follow a new first one, a word of as many has room for one more
pub room_more : (done w : List ℕ) (p i most : ℕ) → done ++ drop i w ≡ p ∷ drop 1 w → i < length w → 0 < length w → length w < most → length done < most
room_more done w p i most e below some room =
    omega (arith, length-append done (drop i w), ap length e, length-drop i w, length-drop 1 w, below, some, room)

-- words of one channel have one mark
pub mark_beside : (n : ℕ) (v w : List ℕ) (mark : Mark) → SameTable n (word_channel n v) (word_channel n w) → IsMarkOf n v mark → IsMarkOf n w mark
mark_beside n v w mark same is =
    let labelled = is.labelled in
    record {
      label = is.label;
      labelled = record { channel = labelled.channel; built = same_table_trans n labelled.channel (word_channel n v) (word_channel n w) labelled.built same; is = labelled.is };
      exponent = is.exponent;
      tag = is.tag;
    }
