-- The fronts of a total, in parts.
use Rattle.std.proofs.Common.{◌≡◌, ℕ, Bool, true, false, ◌+◌, ◌-◌, ◌*◌, ◌/◌, ◌^◌, ◌<◌, ◌≤◌, List, [], ◌++◌, length, slice_index_or, zero, suc, refl, ap, ◌∙◌, subst, arith}
use Rattle.std.proofs.Math.Nat.{div-lt_iff_lt-mul}
use Rattle.std.proofs.lemmas.List.{append-nil, length-map}
use Rattle.coset_label.specs.Words.{RotationWord}
use Rattle.level_store.specs.declared.level.Level.{Level}
use Rattle.level_store.specs.Stored.{letters_in, words_of}
use Rattle.meet_middle.specs.Fronts.{total_of, fronts_of, front_of, number_of, middle_of}

-- a front is the word of its number, with the letter behind it
pub front_parts : (n : ℕ) (words : List (List ℕ)) (odd : Bool) (p : ℕ) → slice_index_or words (number_of n odd p) [] ++ middle_of n odd p ≡ front_of n words odd p
front_parts n words true p = refl
front_parts n words false p = append-nil _

-- a quotient is below what the number is below a multiple of
quotient_below : (p count k : ℕ) → p < count * k → p / k < count
quotient_below p count zero below = absurd (omega (arith, below))
quotient_below p count (suc k) below = (div-lt_iff_lt-mul (omega arith)).1 below

-- the number is that of a word of the level
pub number_below : (n : ℕ) (l : Level) (odd : Bool) (p : ℕ) → p < fronts_of n (letters_in l) odd → number_of n odd p < length (words_of l)
number_below n l true p below =
    subst (λ (count : ℕ). p / (4 ^ n - 1) < count) (length-map (words_of l) (λ (w : RotationWord). w.letters)) (quotient_below p (length (letters_in l)) (4 ^ n - 1) below)
number_below n l false p below = omega (arith, below, length-map (words_of l) (λ (w : RotationWord). w.letters))

-- the halves have at most half of the letters
pub half_of : (h : ℕ) (odd : Bool) → (2 * h ≤ total_of h odd) × (total_of h odd ≤ 2 * h + 1)
half_of h true = (omega arith, omega arith)
half_of h false = (omega arith, omega arith)

-- a word of that number, with that letter, is the front
pub front_spelled : (n : ℕ) (words : List (List ℕ)) (odd : Bool) (p k : ℕ) (word middle : List ℕ) → word ≡ slice_index_or words k [] → k ≡ number_of n odd p → middle ≡ middle_of n odd p
    → word ++ middle ≡ front_of n words odd p
front_spelled n words odd p k word middle is number letter =
    ap (λ (w : List ℕ). w ++ middle) is ∙ (ap (λ (j : ℕ). slice_index_or words j [] ++ middle) number ∙ (ap (λ (x : List ℕ). slice_index_or words (number_of n odd p) [] ++ x) letter ∙ front_parts n words odd p))
