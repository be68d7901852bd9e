-- The word of a number, and words that are compared.
use Rattle.std.proofs.Common.{◌≡◌, ℕ, ◌^◌, ◌<◌, ◌&&◌, Bool, true, false, true≢false, not, nat_eq, refl, List, [], Some, All, length, slice_get, slice_index_or, ap, sym, ◌∙◌, subst}
use Rattle.std.proofs.lemmas.List.{get_or-map}
use Rattle.std.proofs.lemmas.Option.{get_or_from_slice_get}
use Rattle.std.proofs.lemmas.Bool.{and_parts, eqb-true}
use Rattle.std.proofs.lemmas.Bool.Decides.{Decides-and, Decides-eqb}
use Rattle.coset_label.specs.Packing.{digits}
use Rattle.coset_label.specs.Words.{RotationWord, IsShortWord, packed}
use Rattle.coset_label.proofs.Digits.{digits_packed}
use Rattle.coset_label.proofs.PackedWords.{digits_below}
use Rattle.level_store.specs.declared.level.Level.{Level}
use Rattle.level_store.specs.Stored.{letters_in, words_of}

-- the word of a number is on as many qubits as all
pub word_qubits : (n : ℕ) (words : List RotationWord) (k : ℕ) (w : RotationWord) → k < length words → slice_get words k ≡ Some w → All (λ (v : RotationWord). v.qubits ≡ n) words → w.qubits ≡ n
word_qubits n words k w l at all = subst (λ (v : RotationWord). v.qubits ≡ n) (get_or_from_slice_get words k w w at) (all k w l)

-- and has the letters of the number
pub word_letters : (l : Level) (k : ℕ) (w : RotationWord) → k < length (words_of l) → slice_get (words_of l) k ≡ Some w → w.letters ≡ slice_index_or (letters_in l) k []
word_letters l k w lt at =
    sym (get_or-map (λ (v : RotationWord). v.letters) (words_of l) k w [] lt ∙ ap (λ (v : RotationWord). v.letters) (get_or_from_slice_get (words_of l) k w w at))

-- the packed letters of a word, cut again
cut : (w : RotationWord) → IsShortWord w → digits (4 ^ w.qubits) (length w.letters) (packed w.qubits w.letters) ≡ w.letters
cut w h = digits_packed (4 ^ w.qubits) w.letters (digits_below w.qubits w.letters h.word)

-- words whose fields are the same are the same
pub same_words : (v w : RotationWord) → IsShortWord v → IsShortWord w
    → (nat_eq v.qubits w.qubits && (nat_eq (length v.letters) (length w.letters) && nat_eq (packed v.qubits v.letters) (packed w.qubits w.letters))) ≡ true → v ≡ w
same_words v w a b e =
    let h = (Decides-and _ _ (Decides-eqb v.qubits w.qubits) (Decides-and _ _ (Decides-eqb (length v.letters) (length w.letters)) (Decides-eqb (packed v.qubits v.letters) (packed w.qubits w.letters)))).0 e in
    let letters : v.letters ≡ w.letters = sym (cut v a) ∙ ((λ i. digits (4 ^ h.0 i) (h.1.0 i) (h.1.1 i)) ∙ cut w b) in
    λ i. record { qubits = h.0 i; letters = letters i }

-- letters that a comparison finds the same
is_true : (b : Bool) → not b ≡ false → b ≡ true
is_true true e = refl
is_true false e = absurd (true≢false e)

pub same_codes : (a : Bool) (x y : ℕ) → not (a && nat_eq x y) ≡ false → x ≡ y
same_codes a x y e = eqb-true x y (and_parts a (nat_eq x y) (is_true (a && nat_eq x y) e)).1
