-- Lemmas for the crates above: the digits of a number, and the number that digits make.
use Rattle.std.proofs.Common.{◌≡◌, ℕ, zero, suc, ◌+◌, ◌-◌, ◌*◌, ◌/◌, ◌%◌, ◌^◌, ◌<◌, ◌≤◌, List, [], ◌∷◌, ◌++◌, length, refl, inl, inr, ap, sym, ◌∙◌, subst, arith}
use Rattle.std.specs.Prelude.{fold}
use Rattle.std.specs.Ordering.{nat_cmp, ordering_then}
use Rattle.std.specs.declared.cmp.Ordering.TheVariants.{Less, Equal, Greater}
use Rattle.std.specs.Cmp.Lexicographic.{slice_cmp}
use Rattle.std.specs.List.{AllByRecursion}
use Rattle.std.proofs.Math.Nat.{pow-zero, pow-suc, pow-succ', mod-lt, mul_assoc, mul_comm, add_assoc, add-mul, mul-le-mul_right, div-one, div-div-eq-div-mul}
use Rattle.std.proofs.lemmas.Bool.{cases_lt, cases_order}
use Rattle.std.specs.Cmp.{nat_cmp_is}
use Rattle.std.proofs.lemmas.Nat.{div-mul-add, div-add-mod', div_below}
use Rattle.std.proofs.Math.ListN.{get_or, get_or-append}
use Rattle.std.proofs.Math.Seq.{get_or-append_seam}
use Rattle.coset_label.specs.Packing.{digits, length-digits}

-- the last digit of a number
last_digit : (base number last : ℕ) → last < base → (number * base + last) % base ≡ last
last_digit base number last l = omega (arith, ap (λ q. q * base) (div-mul-add number base last l), div-add-mod' (number * base + last) base)

-- one more digit at the end
pub digits-back : (base count number last : ℕ) → last < base → digits base (suc count) (number * base + last) ≡ digits base count number ++ last ∷ []
digits-back base count number last l = λ i. digits base count (div-mul-add number base last l i) ++ last_digit base number last l i ∷ []

-- the digits of a number to a multiple of the base, apart
shifted : (base place first number : ℕ) → 0 < base → number + first * (place * base) ≡ (number / base + first * place) * base + number % base
shifted base place first number some =
    omega (arith, div-add-mod' number base, add-mul (number / base) (first * place) base, mul_assoc first place base)

-- one more digit in front
pub digits-front : (base count first number : ℕ) → first < base → number < base ^ count → digits base (suc count) (number + first * base ^ count) ≡ first ∷ digits base count number
digits-front base zero first number f l =
    let e : number + first * base ^ 0 ≡ 0 * base + first = omega (arith, pow-zero base, ap (λ p. first * p) (pow-zero base)) in
    ap (digits base 1) e ∙ digits-back base 0 0 first f
digits-front base (suc count) first number f l =
    let some : 0 < base = omega arith in
    let below : number / base < base ^ count = div_below number base (base ^ count) some (subst (λ p. number < p) (pow-suc base count) l) in
    ap (λ p. digits base (suc (suc count)) (number + first * p)) (pow-suc base count)
    ∙ ap (digits base (suc (suc count))) (shifted base (base ^ count) first number some)
    ∙ digits-back base (suc count) (number / base + first * base ^ count) (number % base) (mod-lt number some)
    ∙ ap (λ xs. xs ++ number % base ∷ []) (digits-front base count first (number / base) f below)

-- the last digit
last_at : (base count number i d : ℕ) → i ≡ count → get_or (digits base (suc count) number) i d ≡ number / base ^ (suc count - 1 - i) % base
last_at base count number i d e =
    ap (λ k. get_or (digits base (suc count) number) k d) (e ∙ sym (length-digits base count (number / base)))
    ∙ get_or-append_seam (digits base count (number / base)) (number % base) [] d
    ∙ ap (λ q. q % base) (sym (div-one number))
    ∙ ap (λ q. number / q % base) (sym (pow-zero base))
    ∙ ap (λ k. number / base ^ k % base) zeroth
  where
    zeroth : 0 ≡ suc count - 1 - i
    zeroth = omega arith

-- the digit at a place
pub get_or-digits : (base count number i d : ℕ) → i < count → get_or (digits base count number) i d ≡ number / base ^ (count - 1 - i) % base
get_or-digits base zero number i d l = absurd (omega arith)
get_or-digits base (suc count) number i d l = elim (cases_lt i count) [
  | inl h ↦ (
      let e : suc (count - 1 - i) ≡ suc count - 1 - i = omega arith in
      get_or-append (digits base count (number / base)) (number % base ∷ []) d i (omega (arith, length-digits base count (number / base)))
      ∙ get_or-digits base count (number / base) i d h
      ∙ ap (λ q. q % base) (div-div-eq-div-mul number base (base ^ (count - 1 - i)))
      ∙ ap (λ q. number / q % base) (sym (pow-succ' base (count - 1 - i)))
      ∙ ap (λ k. number / base ^ k % base) e)
  | inr h ↦ last_at base count number i d (omega arith)
]

-- the letters' number from a first part on
abbrev packed_from : ℕ → ℕ → List ℕ → ℕ
packed_from base first letters = fold (λ v letter. v * base + letter) first letters

-- each digit is below the base
abbrev pub DigitsBelow : ℕ → List ℕ → Type 0
DigitsBelow base letters = AllByRecursion (λ p. p < base) letters

-- the step of the bound below
between_step : (base first p power : ℕ) → p < base → (first * (power * base) ≤ (first * base + p) * power) × ((first * base + p + 1) * power ≤ (first + 1) * (power * base))
between_step base first p power l =
    let product : power * base ≡ base * power = mul_comm power base in
    let low : first * (power * base) ≡ first * base * power = ap (λ q. first * q) product ∙ sym (mul_assoc first base power) in
    let part : (first * base + p) * power ≡ first * base * power + p * power = add-mul (first * base) p power in
    let next : (first * base + p + 1) * power ≡ (first * base + (p + 1)) * power = ap (λ q. q * power) (add_assoc (first * base) p 1) in
    let split : (first * base + (p + 1)) * power ≡ first * base * power + (p + 1) * power = add-mul (first * base) (p + 1) power in
    let fits : (p + 1) * power ≤ base * power = mul-le-mul_right power (omega arith) in
    let high : (first + 1) * (power * base) ≡ first * (power * base) + 1 * (power * base) = add-mul first 1 (power * base) in
    (omega arith, omega arith)

-- what the letters add is less than one more in front
pub packed_between : (base first : ℕ) (letters : List ℕ) → DigitsBelow base letters
    → (first * base ^ length letters ≤ packed_from base first letters) × (packed_from base first letters < (first + 1) * base ^ length letters)
packed_between base first [] h = (omega (arith, ap (λ p. first * p) (pow-zero base)), omega (arith, ap (λ p. (first + 1) * p) (pow-zero base)))
packed_between base first (p ∷ letters) h =
    let rest = packed_between base (first * base + p) letters h.1 in
    let step = between_step base first p (base ^ length letters) h.0 in
    let e = pow-suc base (length letters) in
    (omega (arith, rest.0, step.0, ap (λ q. first * q) e), omega (arith, rest.1, step.1, ap (λ q. (first + 1) * q) e))

-- a first part that is less makes a number that is less
pub packed_from_less : (base low high : ℕ) (xs ys : List ℕ) → DigitsBelow base xs → DigitsBelow base ys → length xs ≡ length ys → low < high
    → packed_from base low xs < packed_from base high ys
packed_from_less base low high xs ys h g e l =
    let below = (packed_between base low xs h).1 in
    let above = (packed_between base high ys g).0 in
    let between : (low + 1) * base ^ length xs ≤ high * base ^ length ys =
    subst (λ k. (low + 1) * base ^ length xs ≤ high * base ^ k) e (mul-le-mul_right (base ^ length xs) (omega arith)) in
    omega (arith, below, above, between)

-- lists of digits are in order exactly where their numbers are
pub order_is : (base first : ℕ) (xs ys : List ℕ) → DigitsBelow base xs → DigitsBelow base ys → length xs ≡ length ys
    → slice_cmp nat_cmp xs ys ≡ nat_cmp (packed_from base first xs) (packed_from base first ys)
order_is base first [] [] h g e = nat_cmp_is first first Equal refl
order_is base first [] (y ∷ ys) h g e = absurd (omega arith)
order_is base first (x ∷ xs) [] h g e = absurd (omega arith)
order_is base first (x ∷ xs) (y ∷ ys) h g e = elim (cases_order x y) [
  | inl same ↦ (
      ap (λ o. ordering_then o (slice_cmp nat_cmp xs ys)) (sym (nat_cmp_is x y Equal same))
      ∙ order_is base (first * base + x) xs ys h.1 g.1 (omega arith)
      ∙ ap (λ z. nat_cmp (packed_from base (first * base + x) xs) (packed_from base (first * base + z) ys)) same)
  | inr (inl less) ↦ (
      ap (λ o. ordering_then o (slice_cmp nat_cmp xs ys)) (sym (nat_cmp_is x y Less less))
      ∙ nat_cmp_is _ _ Less (packed_from_less base (first * base + x) (first * base + y) xs ys h.1 g.1 (omega arith) (omega arith)))
  | inr (inr more) ↦ (
      ap (λ o. ordering_then o (slice_cmp nat_cmp xs ys)) (sym (nat_cmp_is x y Greater more))
      ∙ nat_cmp_is _ _ Greater (packed_from_less base (first * base + y) (first * base + x) ys xs g.1 h.1 (omega arith) (omega arith)))
]

-- the letters' number from a first part on, as a sum
packed_split : (base first : ℕ) (letters : List ℕ) → packed_from base first letters ≡ packed_from base 0 letters + first * base ^ length letters
packed_split base first [] = omega (arith, ap (λ p. first * p) (pow-zero base))
packed_split base first (p ∷ letters) =
    let power : ℕ = base ^ length letters in
    let a = packed_split base (first * base + p) letters in
    let b = packed_split base (0 * base + p) letters in
    let e : first * base ^ suc (length letters) ≡ first * (power * base) = ap (λ q. first * q) (pow-suc base (length letters)) in
    omega (arith, a, b, e)

-- packed letters, cut again
pub digits_packed : (base : ℕ) (letters : List ℕ) → DigitsBelow base letters → digits base (length letters) (packed_from base 0 letters) ≡ letters
digits_packed base [] h = refl
digits_packed base (p ∷ letters) h =
    let power : ℕ = base ^ length letters in
    let number : ℕ = packed_from base 0 letters in
    let below : number < (0 + 1) * power = (packed_between base 0 letters h.1).1 in
    let split = packed_split base (0 * base + p) letters in
    let e : packed_from base (0 * base + p) letters ≡ number + p * power = omega (arith, split) in
    ap (digits base (suc (length letters))) e ∙ digits-front base (length letters) p number h.0 (omega arith) ∙ ap (λ (l : List ℕ). p ∷ l) (digits_packed base letters h.1)
