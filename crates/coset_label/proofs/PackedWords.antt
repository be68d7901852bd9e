-- Lemmas for the crates above: packed words against the words that they stand for.
use Rattle.std.proofs.Common.{◌≡◌, ◌≢◌, ℕ, zero, suc, ◌+◌, ◌-◌, ◌*◌, ◌/◌, ◌%◌, ◌^◌, ◌<◌, ◌≤◌, ◌↔◌, List, [], ◌∷◌, ◌++◌, length, IsTrue, slice_get, Some, refl, ap, sym, ◌∙◌, subst, arith, nat_lt, nat_eq, Bool, bit_and, Fits, w32, add-one, mod-lt}
use Rattle.std.specs.Ordering.{nat_cmp}
use Rattle.std.specs.declared.cmp.Ordering.TheVariants.{Less, Equal, Greater}
use Rattle.std.specs.Cmp.Lexicographic.{slice_cmp}
use Rattle.std.proofs.Math.Pow.{pow_mono}
use Rattle.std.proofs.Math.Nat.{pow-zero, pow-suc, pow-succ', mul-suc, add-mul, mul-le-mul_right, mod-eq_of_lt, one-mul}
use Rattle.std.proofs.lemmas.Nat.{pow-add}
use Rattle.std.specs.Prelude.{◌⊎◌, ◌&&◌}
use Rattle.std.proofs.Math.Bool.{and_assoc}
use Rattle.std.proofs.Math.ListN.{get_or}
use Rattle.std.proofs.lemmas.Option.{slice_get-get_or}
use Rattle.std.proofs.Common.{inl, inr}
use Rattle.std.specs.Cmp.{nat_cmp_is}
use Rattle.std.proofs.lemmas.Bool.{cases_lt, cases_order}
use borrow.Author.Tests.{ltb-true, lt-ltb}
use Rattle.pauli_basis.proofs.Letters.{two_bits, codes_some, masked}
use Rattle.channel_rep.specs.Words.{IsWord}
use Rattle.coset_label.specs.Words.{RotationWord, IsShortWord, most_letters, packed}
use Rattle.coset_label.specs.Packing.{digits, IsPackedWord, length-packed, packed-digits}
use Rattle.coset_label.proofs.Digits.{DigitsBelow, order_is, digits-back, digits-front, get_or-digits}

-- a packed word as a word
abbrev unpacked : ℕ → ℕ → ℕ → RotationWord
unpacked n count number = record { qubits = n; letters = digits (4 ^ n) count number }

-- a word's number
pub letters_packed : (n count number : ℕ) (w : RotationWord) → unpacked n count number ≡ w → IsPackedWord n count number → number ≡ packed w.qubits w.letters
letters_packed n count number w e h = sym (packed-digits n count number h) ∙ ap (λ (v : RotationWord). packed v.qubits v.letters) e

-- the letters of a word are digits
pub digits_below : (n : ℕ) (letters : List ℕ) → IsWord n letters → DigitsBelow (4 ^ n) letters
digits_below n [] h = h
digits_below n (p ∷ letters) h = (h.0.0, digits_below n letters h.1)

-- a comparison that answers `Less`
pub less_is : (x y : ℕ) → (nat_cmp x y ≡ Less) ↔ (x < y)
less_is x y = (λ e. there (cases_lt x y) e, λ l. sym (nat_cmp_is x y Less l))
  where
    not_less : (x ≡ y) ⊎ ((x < y) ⊎ (y < x)) → nat_cmp x y ≡ Less → y ≤ x → ⊥
    not_less (inl same) e g = let r : Equal ≡ nat_cmp x y = nat_cmp_is x y Equal same in cc
    not_less (inr (inl l)) e g = absurd (omega arith)
    not_less (inr (inr more)) e g = let r : Greater ≡ nat_cmp x y = nat_cmp_is x y Greater more in cc

    there : (x < y) ⊎ (y ≤ x) → nat_cmp x y ≡ Less → x < y
    there (inl l) e = l
    there (inr g) e = absurd (not_less (cases_order x y) e g)

-- two words of as many qubits and letters are in the order of their numbers
compared : (v w : RotationWord) → IsWord v.qubits v.letters → IsWord w.qubits w.letters → v.qubits ≡ w.qubits → length v.letters ≡ length w.letters
    → slice_cmp nat_cmp v.letters w.letters ≡ nat_cmp (packed v.qubits v.letters) (packed w.qubits w.letters)
compared v w h k q l =
    order_is (4 ^ v.qubits) 0 v.letters w.letters (digits_below v.qubits v.letters h) (digits_below v.qubits w.letters (subst (λ n. IsWord n w.letters) (sym q) k)) l
    ∙ ap (λ n. nat_cmp (packed v.qubits v.letters) (packed n w.letters)) q

-- words are in order exactly where their numbers are
pub in_order : (n count number m many other : ℕ) (v w : RotationWord) → unpacked n count number ≡ v → unpacked m many other ≡ w
    → IsPackedWord n count number → IsPackedWord m many other → v.qubits ≡ w.qubits → length v.letters ≡ length w.letters
    → IsTrue (nat_lt number other) ↔ (slice_cmp nat_cmp v.letters w.letters ≡ Less)
in_order n count number m many other v w e g h k q l =
    let a : IsWord v.qubits v.letters = subst (λ (u : RotationWord). IsWord u.qubits u.letters) e h.word in
    let b : IsWord w.qubits w.letters = subst (λ (u : RotationWord). IsWord u.qubits u.letters) g k.word in
    let order = compared v w a b q l in
    let here = letters_packed n count number v e h in
    let there = letters_packed m many other w g k in
    let same : slice_cmp nat_cmp v.letters w.letters ≡ nat_cmp number other = order ∙ (λ i. nat_cmp (sym here i) (sym there i)) in
    (λ t. same ∙ (less_is number other).1 (ltb-true number other t), λ r. lt-ltb number other ((less_is number other).0 (sym same ∙ r)))

-- how many bits a short word fills
pub bits_few : (n count : ℕ) → 0 < n → n ≤ 3 → count ≤ most_letters n → 2 * n * count ≤ 24
bits_few zero count some few short = absurd (omega arith)
bits_few (suc zero) count some few short = omega arith
bits_few (suc (suc zero)) count some few short = omega arith
bits_few (suc (suc (suc zero))) count some few short = omega arith
bits_few (suc (suc (suc (suc n)))) count some few short = absurd (omega arith)

-- a word has at most nine letters
count_few : (n count : ℕ) → count ≤ most_letters n → count ≤ 9
count_few zero count short = omega arith
count_few (suc zero) count short = omega arith
count_few (suc (suc zero)) count short = omega arith
count_few (suc (suc (suc n))) count short = omega arith

-- the room of so many letters as a power of two
pub room_of : (n count : ℕ) → 2 ^ (2 * n * count) ≡ (4 ^ n) ^ count
room_of n zero = ap (λ k. 2 ^ k) nothing ∙ sym (pow-zero (4 ^ n))
  where
    nothing : 2 * n * zero ≡ 0
    nothing = omega arith
room_of n (suc count) =
    let e : 2 * n * suc count ≡ 2 * n * count + 2 * n = mul-suc (2 * n) count in
    ap (λ k. 2 ^ k) e ∙ pow-add 2 (2 * n * count) (2 * n) ∙ (λ i. room_of n count i * two_bits n i) ∙ sym (pow-suc (4 ^ n) count)

-- the room of a word's letters
pub room_few : (n count : ℕ) → 0 < n → n ≤ 3 → count ≤ most_letters n → (4 ^ n) ^ count ≤ 2 ^ 24
room_few n count some few short = subst (λ p. p ≤ 2 ^ 24) (room_of n count) (pow_mono {i = 2 * n * count} {j = 24} (bits_few n count some few short))

-- a packed word fits 24 bits
pub packed_low : (n count number : ℕ) → IsPackedWord n count number → number < 2 ^ 24
packed_low n count number h = let room = room_few n count h.some h.few h.short in omega (arith, h.below)

-- what a packed word stands for is a short word
pub short_word : (n count number : ℕ) (w : RotationWord) → unpacked n count number ≡ w → IsPackedWord n count number → IsShortWord w
short_word n count number w e h =
    subst IsShortWord e (record { some = h.some; few = h.few; word = h.word; short = subst (λ k. k ≤ most_letters n) (sym (length-packed n count number)) h.short })

-- how many letters a packed word stands for
pub letters_counted : (n count number : ℕ) (w : RotationWord) → unpacked n count number ≡ w → count ≡ length w.letters
letters_counted n count number w e = sym (length-packed n count number) ∙ ap (λ (v : RotationWord). length v.letters) e

-- room for one more letter
room_left : (n count number : ℕ) (w : RotationWord) → unpacked n count number ≡ w → length w.letters < most_letters w.qubits → count < most_letters n
room_left n count number w e h =
    subst (λ k. k < most_letters n) (length-packed n count number) (subst (λ (v : RotationWord). length v.letters < most_letters v.qubits) (sym e) h)

-- a word with one more letter at its end
pub word_back : (n : ℕ) (letters : List ℕ) (p : ℕ) → IsWord n letters → p < 4 ^ n → p ≢ 0 → IsWord n (letters ++ p ∷ [])
word_back n [] p h l other = ((l, other), tt)
word_back n (q ∷ letters) p h l other = (h.0, word_back n letters p h.1 l other)

-- a number that is a packed word with one letter more
record PacksOneMore (n count next : ℕ) (letters : List ℕ) : Type 0 where
  pub fits : next < 2 ^ 24
  pub packed : IsPackedWord n (count + 1) next
  pub letters_are : digits (4 ^ n) (count + 1) next ≡ letters

-- what makes a number a packed word with one letter more
packs_one_more : (n count number next : ℕ) (letters : List ℕ) → IsPackedWord n count number → count < most_letters n → next < (4 ^ n) ^ suc count → IsWord n letters
    → digits (4 ^ n) (suc count) next ≡ letters → PacksOneMore n count next letters
packs_one_more n count number next letters h room below word e =
    let one = add-one count in
    let e' : digits (4 ^ n) (count + 1) next ≡ letters = ap (λ k. digits (4 ^ n) k next) one ∙ e in
    let valid : IsPackedWord n (count + 1) next =
    record { some = h.some; few = h.few; short = omega arith; below = subst (λ k. next < (4 ^ n) ^ k) (sym one) below; word = subst (IsWord n) (sym e') word } in
    record { fits = packed_low n (count + 1) next valid; packed = valid; letters_are = e' }

-- one more letter at the end of a packed word
pushed_back : (n count number p : ℕ) → IsPackedWord n count number → p < 4 ^ n → p ≢ 0 → count < most_letters n
    → PacksOneMore n count (number * 4 ^ n + p) (digits (4 ^ n) count number ++ p ∷ [])
pushed_back n count number p h l other room =
    let fits : (number + 1) * 4 ^ n ≤ (4 ^ n) ^ count * 4 ^ n = mul-le-mul_right (4 ^ n) (omega (arith, h.below)) in
    let below : number * 4 ^ n + p < (4 ^ n) ^ suc count = omega (arith, add-mul number 1 (4 ^ n), pow-suc (4 ^ n) count) in
    packs_one_more n count number _ _ h room below (word_back n _ p h.word l other) (digits-back (4 ^ n) count number p l)

-- one more letter before a packed word
pushed_front : (n count number p : ℕ) → IsPackedWord n count number → p < 4 ^ n → p ≢ 0 → count < most_letters n
    → PacksOneMore n count (number + p * (4 ^ n) ^ count) (p ∷ digits (4 ^ n) count number)
pushed_front n count number p h l other room =
    let fits : (p + 1) * (4 ^ n) ^ count ≤ 4 ^ n * (4 ^ n) ^ count = mul-le-mul_right ((4 ^ n) ^ count) (omega arith) in
    let below : number + p * (4 ^ n) ^ count < (4 ^ n) ^ suc count = omega (arith, h.below, add-mul p 1 ((4 ^ n) ^ count), pow-succ' (4 ^ n) count) in
    packs_one_more n count number _ _ h room below ((l, other), h.word) (digits-front (4 ^ n) count p number l h.below)

-- a number of 24 bits that a shift makes
shifted_is : (a number next : ℕ) → a ≡ number → number ≤ next → next < 2 ^ 24 → a % 2 ^ 32 ≡ number
shifted_is a number next e l h = mod-eq_of_lt {n = a} {m = 2 ^ 32} (omega arith) ∙ e

-- the code's number with one more letter at its end
pub back_number : (n count number p : ℕ) → number * 4 ^ n + p < 2 ^ 24 → number * 2 ^ (2 * n) % 2 ^ 32 + p ≡ number * 4 ^ n + p
back_number n count number p h = ap (λ v. v + p) (shifted_is _ _ (number * 4 ^ n + p) (ap (λ q. number * q) (two_bits n)) (omega arith) h)

-- the code's number with one more letter before it
pub front_number : (n count number p : ℕ) → number + p * (4 ^ n) ^ count < 2 ^ 24 → number + p * 2 ^ (2 * n * count) % 2 ^ 32 ≡ number + p * (4 ^ n) ^ count
front_number n count number p h = ap (λ v. number + v) (shifted_is _ _ (number + p * (4 ^ n) ^ count) (ap (λ q. p * q) (room_of n count)) (omega arith) h)

-- a word with one more letter at its end, as the code packs it
pub record IsPackedAs (n count next : ℕ) (w : RotationWord) : Type 0 where
  pub fits : Fits w32 next
  pub packed : IsPackedWord n (count + 1) next
  pub stands_for : unpacked n (count + 1) next ≡ w

-- from a number that packs one letter more to the code's number
packed_as : (n count number next : ℕ) (letters : List ℕ) (w : RotationWord) → number ≡ next → PacksOneMore n count next letters → record { qubits = n; letters = letters } ≡ w
    → IsPackedAs n count number w
packed_as n count number next letters w e h g =
    subst (λ v. IsPackedAs n count v w) (sym e)
    (record { fits = record { fits = omega (arith, h.fits) }; packed = h.packed; stands_for = (λ i. record { qubits = n; letters = h.letters_are i }) ∙ g })

pub back_packed : (n count number code p : ℕ) (w : RotationWord) → unpacked n count number ≡ w → IsPackedWord n count number → code ≡ p → code < 4 ^ w.qubits → p ≢ 0
    → length w.letters < most_letters w.qubits → IsPackedAs n count (number * 2 ^ (2 * n) % 2 ^ 32 + code) (record w { letters = w.letters ++ p ∷ [] })
back_packed n count number code p w e h is l other room =
    let more = pushed_back n count number p h (subst (λ (v : RotationWord). p < 4 ^ v.qubits) (sym e) (subst (λ q. q < 4 ^ w.qubits) is l)) other (room_left n count number w e room) in
    packed_as n count _ _ _ _ (ap (λ q. number * 2 ^ (2 * n) % 2 ^ 32 + q) is ∙ back_number n count number p more.fits) more (λ i. record { qubits = (e i).qubits; letters = (e i).letters ++ p ∷ [] })

pub front_packed : (n count number code p : ℕ) (w : RotationWord) → unpacked n count number ≡ w → IsPackedWord n count number → code ≡ p → code < 4 ^ w.qubits → p ≢ 0
    → length w.letters < most_letters w.qubits → IsPackedAs n count (number + code * 2 ^ (2 * n * count) % 2 ^ 32) (record w { letters = p ∷ w.letters })
front_packed n count number code p w e h is l other room =
    let more = pushed_front n count number p h (subst (λ (v : RotationWord). p < 4 ^ v.qubits) (sym e) (subst (λ q. q < 4 ^ w.qubits) is l)) other (room_left n count number w e room) in
    packed_as n count _ _ _ _ (ap (λ q. number + q * 2 ^ (2 * n * count) % 2 ^ 32) is ∙ front_number n count number p more.fits) more (λ i. record { qubits = (e i).qubits; letters = p ∷ (e i).letters })

-- the fields of a word from its value, as its comparison wants them
pub same_fields : (n count number : ℕ) (w : RotationWord) → unpacked n count number ≡ w → IsPackedWord n count number → (n ≡ w.qubits) × (count ≡ length w.letters) × (number ≡ packed w.qubits w.letters)
same_fields n count number w e h = (ap (λ (v : RotationWord). v.qubits) e, letters_counted n count number w e, letters_packed n count number w e h)

-- what a derived comparison answers, field by field, is what it answers of the values
pub same_answer : (n count number m many other : ℕ) (v w : RotationWord) (first second third : Bool) → unpacked n count number ≡ v → unpacked m many other ≡ w
    → IsPackedWord n count number → IsPackedWord m many other → first ≡ nat_eq n m → second ≡ (first && nat_eq count many) → third ≡ (second && nat_eq number other)
    → third ≡ (nat_eq v.qubits w.qubits && (nat_eq (length v.letters) (length w.letters) && nat_eq (packed v.qubits v.letters) (packed w.qubits w.letters)))
same_answer n count number m many other v w first second third e g h k a b d =
    let here = same_fields n count number v e h in
    let there = same_fields m many other w g k in
    d ∙ (λ i. b i && nat_eq number other) ∙ (λ i. (a i && nat_eq count many) && nat_eq number other)
    ∙ and_assoc (nat_eq n m) (nat_eq count many) (nat_eq number other)
    ∙ (λ i. nat_eq (here.0 i) (there.0 i) && (nat_eq (here.1 i) (there.1 i) && nat_eq (here.2 i) (there.2 i)))

-- a letter of a word isn't the identity
letter_other : (n : ℕ) (letters : List ℕ) (i d : ℕ) → IsWord n letters → i < length letters → get_or letters i d ≢ 0
letter_other n [] i d h l = absurd (omega arith)
letter_other n (p ∷ letters) zero d h l = h.0.1
letter_other n (p ∷ letters) (suc i) d h l = letter_other n letters i d h.1 (omega arith)

-- the code's mask of a letter
mask_is : (n a : ℕ) → n ≤ 3 → bit_and a (1 * 2 ^ (2 * n) % 2 ^ 32 - 1) ≡ a % 4 ^ n
mask_is n a few =
    let low : 2 ^ (2 * n) ≤ 2 ^ 6 = pow_mono {i = 2 * n} {j = 6} (omega arith) in
    let whole : 1 * 2 ^ (2 * n) % 2 ^ 32 ≡ 2 ^ (2 * n) = ap (λ q. q % 2 ^ 32) (one-mul (2 ^ (2 * n))) ∙ mod-eq_of_lt {n = 2 ^ (2 * n)} {m = 2 ^ 32} (omega arith) in
    masked n _ a (whole ∙ two_bits n)

-- is a letter's code
pub mask_below : (n a : ℕ) → n ≤ 3 → bit_and a (1 * 2 ^ (2 * n) % 2 ^ 32 - 1) < 4 ^ n
mask_below n a few = subst (λ m. m < 4 ^ n) (sym (mask_is n a few)) (mod-lt a (codes_some n))

-- what the code reads at a place is the letter there
pub letter_read : (n count number i : ℕ) (w : RotationWord) (code : ℕ) → unpacked n count number ≡ w → IsPackedWord n count number → i < length w.letters
    → code ≡ bit_and (number / 2 ^ (2 * n * (count - 1 - i))) (1 * 2 ^ (2 * n) % 2 ^ 32 - 1) → (slice_get w.letters i ≡ Some code) × (code ≢ 0)
letter_read n count number i w code e h l is =
    let inside : i < count = subst (λ k. i < k) (sym (letters_counted n count number w e)) l in
    let here : i < length (digits (4 ^ n) count number) = subst (λ k. i < k) (sym (length-packed n count number)) inside in
    let place : number / 2 ^ (2 * n * (count - 1 - i)) ≡ number / (4 ^ n) ^ (count - 1 - i) = ap (λ q. number / q) (room_of n (count - 1 - i)) in
    let read : code ≡ get_or (digits (4 ^ n) count number) i 0 =
    is ∙ mask_is n _ h.few ∙ ap (λ q. q % 4 ^ n) place ∙ sym (get_or-digits (4 ^ n) count number i 0 inside) in (
      ap (λ (v : RotationWord). slice_get v.letters i) (sym e) ∙ slice_get-get_or (digits (4 ^ n) count number) i 0 here ∙ ap Some (sym read),
      λ z. letter_other n _ i 0 h.word here (sym read ∙ z),
    )
