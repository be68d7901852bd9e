-- A packed word without its last letter.
use Rattle.std.proofs.Common.{◌≡◌, ℕ, suc, ◌*◌, ◌/◌, ◌%◌, ◌^◌, ◌<◌, List, [], ◌∷◌, ◌++◌, length, Some, slice_get, ap, sym, ◌∙◌, subst, arith}
use Rattle.std.proofs.Math.Nat.{pow-suc}
use Rattle.std.proofs.Math.Seq.{get_or-append_seam}
use Rattle.std.proofs.Math.ListN.{get_or}
use Rattle.std.proofs.lemmas.Nat.{div_below}
use Rattle.std.proofs.lemmas.Option.{get_or_from_slice_get}
use Rattle.channel_rep.specs.Words.{IsWord}
use Rattle.coset_label.specs.Packing.{digits, IsPackedWord, four_pos, length-digits}
use Rattle.coset_label.specs.Words.{RotationWord, IsShortWord, packed}
use Rattle.coset_label.proofs.Digits.{digits_packed, packed_between}
use Rattle.pauli_basis.proofs.Letters.{two_bits}
use Rattle.coset_label.proofs.PackedWords.{digits_below}

-- the first letters of a word are a word
word_starts : (n : ℕ) (a b : List ℕ) → IsWord n (a ++ b) → IsWord n a
word_starts n [] b h = tt
word_starts n (p ∷ a) b h = (h.0, word_starts n a b h.1)

-- the packed number of a word is cut before its last letter
pub record IsCut (n count number : ℕ) (letters : List ℕ) : Type 0 where
  pub packed : IsPackedWord n count number
  pub joined : (code : ℕ) → slice_get letters count ≡ Some code → digits (4 ^ n) count number ++ code ∷ [] ≡ letters

pub cut_last : (w : RotationWord) → IsShortWord w → (n count number : ℕ) → n ≡ w.qubits → suc count ≡ length w.letters → number ≡ packed w.qubits w.letters → IsCut n count (number / 2 ^ (2 * n)) w.letters
cut_last w h n count number q long is =
    let base : ℕ = 4 ^ w.qubits in
    let all : ℕ = packed w.qubits w.letters in
    let below : all < base ^ suc count = subst (λ k. all < base ^ k) (sym long) (omega (arith, (packed_between base 0 w.letters (digits_below w.qubits w.letters h.word)).1)) in
    let whole : digits base (suc count) all ≡ w.letters = ap (λ k. digits base k all) long ∙ digits_packed base w.letters (digits_below w.qubits w.letters h.word) in
    let small : all / base < base ^ count = div_below all base (base ^ count) (four_pos w.qubits) (subst (λ p. all < p) (pow-suc base count) below) in
    let cut : IsCut w.qubits count (all / base) w.letters = record {
      packed = record {
        some = h.some;
        few = h.few;
        short = omega (arith, h.short);
        below = small;
        word = word_starts w.qubits (digits base count (all / base)) _ (subst (IsWord w.qubits) (sym whole) h.word);
      };
      joined = λ code at.
          let last : all % base ≡ code =
          sym (get_or-append_seam (digits base count (all / base)) (all % base) [] code)
          ∙ ap (λ k. get_or (digits base (suc count) all) k code) (length-digits base count (all / base))
          ∙ ap (λ l. get_or l count code) whole
          ∙ get_or_from_slice_get w.letters count code code at in
          ap (λ x. digits base count (all / base) ++ x ∷ []) (sym last) ∙ whole;
    } in
    let shift : all / base ≡ number / 2 ^ (2 * n) = ap (λ k. all / k) (ap (λ k. 4 ^ k) (sym q) ∙ sym (two_bits n)) ∙ ap (λ k. k / 2 ^ (2 * n)) (sym is) in
    subst (λ k. IsCut k count (number / 2 ^ (2 * n)) w.letters) (sym q) (subst (λ k. IsCut w.qubits count k w.letters) shift cut)
