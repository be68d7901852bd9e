-- A first part whose least exponent passes the letters that are left leads to no word of the level.
use Rattle.std.proofs.Common.{◌≡◌, ℕ, ◌+◌, ◌≤◌, List, [], ◌∷◌, ◌++◌, length, length-append, append_assoc, ap, sym, ◌∙◌, subst, arith}
use Rattle.std.proofs.lemmas.List.{append-nil}
use Rattle.channel_rep.specs.Cells.{ChannelGrid, scaled}
use Rattle.channel_rep.specs.Tables.{ScaledTable, by_inverse_rotation, stepped, built_on, SameTable}
use Rattle.channel_rep.specs.Words.{IsWord}
use Rattle.channel_rep.proofs.Built.{same_table_refl, same_table_trans}
use Rattle.channel_rep.proofs.Products.{built_on-append}
use Rattle.coset_label.specs.Cosets.{SameCoset}
use Rattle.coset_label.specs.Words.{word_channel}
use Rattle.coset_label.proofs.Exponents.{least_of_words}
use Rattle.coset_label.proofs.InFront.{coset_before}
use Rattle.coset_words.proofs.Rests.{coset_left}
use Rattle.level_laws.specs.Levels.{StandsIn, removed, undo}
use Rattle.level_laws.proofs.Removed.{undo-append}
use Rattle.meet_middle.specs.Remainders.{IsLeastExponentOf}
use Rattle.meet_middle.specs.Trails.{IsPast, HasPast}

-- a table of the same value has the same least exponent
pub least_of_same : (n : ℕ) (a b : ScaledTable) (e : ℕ) → SameTable n a b → IsLeastExponentOf n a e → IsLeastExponentOf n b e
least_of_same n a b e same least = record { reduced = least.reduced; same = same_table_trans n least.reduced a b least.same same; least = least.least; is = least.is }

-- a word whose first letters are taken off in turn
pub removed_parts : (n : ℕ) (m : ScaledTable) (a b : List ℕ) → removed n m (a ++ b) ≡ removed n (removed n m a) b
removed_parts n m a b = ap (built_on n m) (undo-append a b) ∙ built_on-append n (undo a) (undo b) m

-- a word in the coset of what is left stands behind the letters taken off, in the coset of what they were taken off
stands_before : (n : ℕ) (letters word : List ℕ) (m : ScaledTable) → IsWord n letters → SameCoset n (removed n m letters) (word_channel n word) → SameCoset n m (word_channel n (letters ++ word))
stands_before n [] word m good same = same
stands_before n (p ∷ letters) word m good same =
    (coset_left n p good.0.0 good.0.1 m (stepped n (by_inverse_rotation p) m) (same_table_refl n _) (letters ++ word)).1
    (stands_before n letters word (stepped n (by_inverse_rotation p) m) good.1 same)

-- so no word of the level is behind a word where the least exponent without a first part of it passes the letters left
past_part : (n half left : ℕ) (target : ScaledTable) (first others : List ℕ) → IsPast n target first left → IsWord n others → length others + half ≤ left
    → StandsIn n half (removed n target (first ++ others)) → ⊥
past_part n half left target first others past good few found =
    let word = found.0 in
    let here : SameCoset n (removed n (removed n target first) others) (word_channel n word) = subst (λ m. SameCoset n m (word_channel n word)) (removed_parts n target first others) found.1.same in
    let whole = stands_before n others word (removed n target first) good here in
    let least = past.least in
    let bound = least_of_words n least.reduced least.least (others ++ word) (coset_before n least.reduced (removed n target first) (word_channel n (others ++ word)) least.same whole) in
    omega (arith, bound, least.is, past.past, length-append others word, found.1.level.letters)

pub past_letter : (n half : ℕ) (target : ScaledTable) (word : List ℕ) → IsPast n target word half → StandsIn n half (removed n target word) → ⊥
past_letter n half target word past found =
    past_part n half half target word [] past tt (omega arith) (subst (λ w. StandsIn n half (removed n target w)) (sym (append-nil word)) found)

-- the letters behind a word may be several
word_ends : (n : ℕ) (a b : List ℕ) → IsWord n (a ++ b) → IsWord n b
word_ends n [] b h = h
word_ends n (p ∷ a) b h = word_ends n a b h.1

word_joins : (n : ℕ) (a b : List ℕ) → IsWord n a → IsWord n b → IsWord n (a ++ b)
word_joins n [] b h g = g
word_joins n (p ∷ a) b h g = (h.0, word_joins n a b h.1 g)

pub past_word : (n half behind : ℕ) (target : ScaledTable) (word last : List ℕ) → HasPast n target word behind → IsWord n word → IsWord n last → length last + half ≤ behind
    → StandsIn n half (removed n target (word ++ last)) → ⊥
past_word n half behind target word last past good ends few found =
    let others = past.others in
    let split : word ++ last ≡ past.first ++ (others ++ last) = ap (λ w. w ++ last) (sym past.parts) ∙ append_assoc past.first others last in
    past_part n half (length others + behind) target past.first (others ++ last) past.past
    (word_joins n others last (word_ends n past.first others (subst (IsWord n) (sym past.parts) good)) ends)
    (omega (arith, length-append others last)) (subst (λ w. StandsIn n half (removed n target w)) split found)

-- the same by other names
pub past_named : (q n left p : ℕ) (own target : ChannelGrid) (word prefix : List ℕ) → q ≡ n → own ≡ target → word ≡ prefix → IsPast q (scaled own) (word ++ p ∷ []) left → IsPast n (scaled target) (prefix ++ p ∷ []) left
past_named q n left p own target word prefix qubits same letters past =
    subst (λ (w : List ℕ). IsPast n (scaled target) (w ++ p ∷ []) left) letters
    (subst (λ (t : ChannelGrid). IsPast n (scaled t) (word ++ p ∷ []) left) same
    (subst (λ (k : ℕ). IsPast k (scaled own) (word ++ p ∷ []) left) qubits past))
