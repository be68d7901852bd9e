-- Numbers of 128 bits with a sign, from two halves of 64 bits, and how many bits such a number has.
use Rattle.std.proofs.Common.{◌≡◌, ℕ, zero, suc, ◌+◌, ◌-◌, ◌*◌, ◌/◌, ◌%◌, ◌^◌, ◌<◌, ◌≤◌, ap, sym, ◌∙◌, subst, arith, inl, inr, lit<, w64, to_z, of_z}
use Rattle.std.specs.Prelude.{ℤ, pos, negsuc, ◌+ℤ◌, ◌*ℤ◌, nat_abs, int_div}
use Rattle.std.specs.Int.Count.{count_leading_zeros}
use Rattle.std.specs.Int.{w128}
use Rattle.std.proofs.lemmas.Bool.{cases_lt}
use Rattle.std.proofs.lemmas.Int.{ints, of_z-to_z, to_z-of_z, to_z_pos, fits_signed_from_abs, quot-rem, rem_below}
use Rattle.std.proofs.lemmas.Nat.{leading_top, pow-add, pow_pos}
use Rattle.std.proofs.Math.Facts.{to_z-neg}
use Rattle.std.proofs.Math.Nat.{pow-le-pow_right, pow-zero, pow-succ'}
use Rattle.label_laws.specs.Congruence.{IsCongruent}
use Rattle.label_laws.proofs.Congruences.{congruent_self, congruent-plus, congruent-times, congruent_cut, congruent_again}

-- ---- bits that are congruent to a small number are those of the number
read_64 : (x : ℤ) (f : ℕ) → f < 2 ^ 64 → IsCongruent (2 ^ 64) x f → nat_abs x < 2 ^ 63 → to_z w64 f ≡ x
read_64 (pos k) f l h few = ap (to_z w64) same ∙ to_z_pos w64 k few
  where
    same : f ≡ k
    same = let q = h.0 in let e = h.1 in omega (arith, ints)
read_64 (negsuc k) f l h few = ap (to_z w64) same ∙ to_z-neg w64 k (omega arith)
  where
    same : f ≡ 2 ^ 64 - suc k
    same = let q = h.0 in let e = h.1 in omega (arith, ints)

read_128 : (x : ℤ) (f : ℕ) → f < 2 ^ 128 → IsCongruent (2 ^ 128) x f → nat_abs x < 2 ^ 127 → to_z w128 f ≡ x
read_128 (pos k) f l h few = ap (to_z w128) same ∙ to_z_pos w128 k few
  where
    same : f ≡ k
    same = let q = h.0 in let e = h.1 in omega (arith, ints)
read_128 (negsuc k) f l h few = ap (to_z w128) same ∙ to_z-neg w128 k (omega arith)
  where
    same : f ≡ 2 ^ 128 - suc k
    same = let q = h.0 in let e = h.1 in omega (arith, ints)

-- a number's own bits are congruent to it
bits_128 : (x : ℤ) → nat_abs x < 2 ^ 63 → IsCongruent (2 ^ 128) x (of_z w128 x)
bits_128 (pos k) few = congruent_self (2 ^ 128) k
bits_128 (negsuc k) few = (pos 1, omega (arith, ints))

cut_128 : (x : ℤ) (f : ℕ) → IsCongruent (2 ^ 128) x f → IsCongruent (2 ^ 128) x (f % 2 ^ 128)
cut_128 x f h = congruent_again (2 ^ 128) x f (f % 2 ^ 128) (congruent_cut (2 ^ 128) f) h

-- ---- the number of two halves
joined : (x y : ℤ) → nat_abs x < 2 ^ 63 → nat_abs y < 2 ^ 63
    → to_z w128 ((of_z w128 x * 2 ^ 64 % 2 ^ 128 + of_z w128 y) % 2 ^ 128) ≡ x *ℤ pos (2 ^ 64) +ℤ y
joined x y few_x few_y =
    read_128 (x *ℤ pos (2 ^ 64) +ℤ y) _ (omega arith)
    (cut_128 _ _ (congruent-plus (2 ^ 128) (x *ℤ pos (2 ^ 64)) y _ _
    (cut_128 _ _ (congruent-times (2 ^ 128) x (pos (2 ^ 64)) (of_z w128 x) (2 ^ 64) (bits_128 x few_x) (congruent_self (2 ^ 128) (2 ^ 64)))) (bits_128 y few_y)))
    (omega (arith, ints))

-- what the code reads of a half
half_is : (x : ℤ) (f : ℕ) (z u : ℤ) → f < 2 ^ 64 → IsCongruent (2 ^ 64) x f → nat_abs x < 2 ^ 63 → z ≡ to_z w64 f → u ≡ to_z w64 (of_z w64 z) → u ≡ x
half_is x f z u l h few is wide = wide ∙ ap (λ v. to_z w64 (of_z w64 v)) is ∙ ap (to_z w64) (of_z-to_z w64 f l) ∙ read_64 x f l h few

pub number_of_halves : (x y : ℤ) (high low : ℕ) (high_read high_wide low_read low_wide : ℤ) → high < 2 ^ 64 → low < 2 ^ 64
    → IsCongruent (2 ^ 64) x high → IsCongruent (2 ^ 64) y low → nat_abs x < 2 ^ 63 → nat_abs y < 2 ^ 63
    → high_read ≡ to_z w64 high → high_wide ≡ to_z w64 (of_z w64 high_read) → low_read ≡ to_z w64 low → low_wide ≡ to_z w64 (of_z w64 low_read)
    → to_z w128 ((of_z w128 high_wide * 2 ^ 64 % 2 ^ 128 + of_z w128 low_wide) % 2 ^ 128) ≡ x *ℤ pos (2 ^ 64) +ℤ y
number_of_halves x y high low high_read high_wide low_read low_wide lh ll hx hy few_x few_y read_x wide_x read_y wide_y =
    (λ i. to_z w128 ((of_z w128 (half_is x high high_read high_wide lh hx few_x read_x wide_x i) * 2 ^ 64 % 2 ^ 128 + of_z w128 (half_is y low low_read low_wide ll hy few_y read_y wide_y i)) % 2 ^ 128))
    ∙ joined x y few_x few_y

-- half of twice a number
half_of_twice : (z : ℤ) → int_div (pos 2 *ℤ z) (pos 2) ≡ z
half_of_twice z = let e = quot-rem (pos 2 *ℤ z) (pos 2) in let l = rem_below (pos 2 *ℤ z) (pos 2) (omega arith) in omega (arith, ints)

pub halved_number : (x y z u : ℤ) → nat_abs x < 2 ^ 63 → nat_abs y < 2 ^ 63 → u ≡ x *ℤ pos (2 ^ 64) +ℤ y → x *ℤ pos (2 ^ 64) +ℤ y ≡ pos 2 *ℤ z
    → to_z w128 (of_z w128 (int_div u (pos 2))) ≡ z
halved_number x y z u few_x few_y is twice =
    ap (λ v. to_z w128 (of_z w128 (int_div v (pos 2)))) (is ∙ twice)
    ∙ ap (λ v. to_z w128 (of_z w128 v)) (half_of_twice z) ∙ to_z-of_z w128 z (fits_signed_from_abs w128 z (omega (arith, ints)))

-- ---- the length of a number
power_of_bytes : (k : ℕ) → 256 ^ k ≡ 2 ^ (8 * k)
power_of_bytes zero = pow-zero 256
power_of_bytes (suc k) =
    let more : 8 * suc k ≡ 8 + 8 * k = omega arith in
    pow-succ' 256 k ∙ ap (λ p. 256 * p) (power_of_bytes k) ∙ sym (pow-add 2 8 (8 * k)) ∙ ap (λ j. 2 ^ j) (sym more)

-- a number between two powers of 2 tells their order
powers_apart : (i j x : ℕ) → 2 ^ i ≤ x → x < 2 ^ j → i < j
powers_apart i j x low high = elim (cases_lt i j) [
  | inl l ↦ l
  | inr l ↦ absurd (let more : 2 ^ j ≤ 2 ^ i = pow-le-pow_right {n = 2} (lit< tt) l in omega arith)
]

-- by its bits
pub bytes_behind : (a behind : ℕ) → a < 2 ^ 128 → 256 ^ behind ≤ 2 * a → 2 * a < 256 ^ (behind + 1) → (128 - count_leading_zeros 128 a) / 8 ≡ behind
bytes_behind a behind l low high =
    let some : 0 < 256 ^ behind = subst (λ p. 0 < p) (sym (power_of_bytes behind)) (pow_pos (8 * behind)) in
    let top = leading_top 128 a (omega arith) l in
    let j = top.0 in
    let from : 2 ^ (8 * behind) ≤ 2 * a = subst (λ p. p ≤ 2 * a) (power_of_bytes behind) low in
    let to : 2 * a < 2 ^ (8 * (behind + 1)) = subst (λ p. 2 * a < p) (power_of_bytes (behind + 1)) high in
    let one_more = pow-succ' 2 j in
    let two_more = pow-succ' 2 (suc j) in
    let below : 8 * behind < suc (suc j) = powers_apart (8 * behind) (suc (suc j)) (2 * a) from (omega (arith, top.1)) in
    let above : suc j < 8 * (behind + 1) = powers_apart (suc j) (8 * (behind + 1)) (2 * a) (omega (arith, top.1)) to in
    let bits : 128 - count_leading_zeros 128 a ≡ suc j = omega (arith, top.1) in
    ap (λ k. k / 8) bits ∙ (omega arith)
