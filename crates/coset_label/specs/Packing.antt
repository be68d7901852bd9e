-- Words as packed numbers: the letters are the digits of a number to the base 4^n, and packing them gives it back.
use Rattle.std.specs.Prelude.{◌≡◌, ℕ, zero, suc, ◌+◌, ◌*◌, ◌/◌, ◌%◌, ◌^◌, ◌<◌, ◌≤◌, List, [], ◌∷◌, ◌++◌, length, fold, refl}
use Rattle.std.proofs.Common.{ap, ◌∙◌, subst, arith, length-append, lit<}
use Rattle.std.proofs.Math.Nat.{pow-zero, pow-suc, one-le-pow}
use Rattle.std.proofs.lemmas.Nat.{div-add-mod', div_below}
use Rattle.std.proofs.lemmas.List.Sums.{fold-append}
use Rattle.channel_rep.specs.Words.{IsWord}
use Rattle.coset_label.specs.Words.{most_letters, packed}

-- the last digits of a number to a base, the highest first
abbrev pub digits : ℕ → ℕ → ℕ → List ℕ
digits base zero number = []
digits base (suc count) number = digits base count (number / base) ++ number % base ∷ []

-- a number of so many letters on one to three qubits, none of which is the identity
pub record IsPackedWord (n count number : ℕ) : Type 0 where
  pub some : 0 < n
  pub few : n ≤ 3
  pub short : count ≤ most_letters n
  pub below : number < (4 ^ n) ^ count
  pub word : IsWord n (digits (4 ^ n) count number)

-- a power of four isn't 0
pub four_pos : (n : ℕ) → 0 < 4 ^ n
four_pos n = one-le-pow n 4 (lit< tt)

-- so many digits as are asked for
pub length-digits : (base count number : ℕ) → length (digits base count number) ≡ count
length-digits base zero number = refl
length-digits base (suc count) number =
    omega (arith, length-append (digits base count (number / base)) (number % base ∷ []), length-digits base count (number / base))

-- the digits of a number make it again
pub fold-digits : (base count number : ℕ) → 0 < base → number < base ^ count → fold (λ v letter. v * base + letter) 0 (digits base count number) ≡ number
fold-digits base zero number some l = omega (arith, pow-zero base)
fold-digits base (suc count) number some l =
    let e = pow-suc base count in
    let below : number / base < base ^ count = div_below number base (base ^ count) some (subst (λ p. number < p) e l) in
    fold-append (λ v letter. v * base + letter) 0 (digits base count (number / base)) (number % base ∷ [])
    ∙ ap (λ v. v * base + number % base) (fold-digits base count (number / base) some below)
    ∙ div-add-mod' number base

-- the letters of a packed word are as many as it has
pub length-packed : (n count number : ℕ) → length (digits (4 ^ n) count number) ≡ count
length-packed n count number = length-digits (4 ^ n) count number

-- a packed word is its letters, packed
pub packed-digits : (n count number : ℕ) → IsPackedWord n count number → packed n (digits (4 ^ n) count number) ≡ number
packed-digits n count number h = fold-digits (4 ^ n) count number (four_pos n) h.below
