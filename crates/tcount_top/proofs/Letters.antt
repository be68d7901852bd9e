-- Letters, their codes and their texts.
use Rattle.std.proofs.Common.{◌≡◌, ℕ, suc, ◌+◌, ◌-◌, ◌<◌, List, [], ◌∷◌, ◌++◌, length, map, take, drop, get_or, slice_get, Some, All, Result, Ok, Err, IfOk, refl, ap, ◌∙◌, arith}
use Rattle.std.specs.Option.{option_map}
use Rattle.std.proofs.Math.Seq.{drop-cons}
use Rattle.std.proofs.lemmas.List.{take_more}
use Rattle.std.proofs.lemmas.Option.{get_or_from_slice_get, slice_get_within, slice_get_read, slice_get-map}
use Rattle.pauli_basis.specs.Pauli.{PauliString, pauli_text}
use Rattle.tcount_top.specs.Printed.{codes_of, word_texts}

abbrev code : PauliString → ℕ
code p = p.code

-- the letter at an index
pub code_at : (letters : List PauliString) (i : ℕ) (p : PauliString) → i < length letters → p ≡ get_or letters i p → slice_get (codes_of letters) i ≡ Some p.code
code_at letters i p l is = slice_get-map code letters i ∙ ap (option_map code) (slice_get_read letters (length letters) i p refl l is)

pub take_letter : (letters : List ℕ) (i p : ℕ) → slice_get letters i ≡ Some p → take (i + 1) letters ≡ take i letters ++ p ∷ []
take_letter letters i p at = take_more letters i p (slice_get_within letters i p at) ∙ ap (λ (x : ℕ). take i letters ++ x ∷ []) (get_or_from_slice_get letters i p p at)

pub drop_letter : (letters : List ℕ) (left p : ℕ) → 0 < left → slice_get letters (left - 1) ≡ Some p → drop (left - 1) letters ≡ p ∷ drop left letters
drop_letter letters left p some h =
    let at : suc (left - 1) ≡ left = omega arith in
    drop-cons letters (left - 1) p (slice_get_within letters (left - 1) p h)
    ∙ (λ i. get_or_from_slice_get letters (left - 1) p p h i ∷ drop (at i) letters)

-- the texts of letters on n qubits
pub texts_are : (n : ℕ) (letters : List PauliString) → All (λ p. p.qubits ≡ n) letters → map (λ (p : PauliString). pauli_text p.qubits p.code) letters ≡ word_texts n (codes_of letters)
texts_are n [] h = refl
texts_are n (p ∷ letters) h =
    let first : p.qubits ≡ n = h 0 p (omega arith) in
    let rest = texts_are n letters (λ k d l. h (suc k) d (omega (arith, l))) in
    ap (λ (k : ℕ). pauli_text k p.code ∷ map (λ (r : PauliString). pauli_text r.qubits r.code) letters) first ∙ ap (λ (t : List (List ℕ)). pauli_text n p.code ∷ t) rest

pub ok_more : {T E : Type 0} (r : Result T E) (P Q : T → Type 0) → ((x : T) → P x → Q x) → IfOk r P → IfOk r Q
ok_more (Ok x) P Q f h = f x h
ok_more (Err e) P Q f h = tt
