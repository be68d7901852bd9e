-- Lemmas for the crates above: sums of four squares of whole numbers.
use mathlib.Core.Path.{◌≡◌, refl}
use Prim.Native.Nat.{ℕ, zero, suc, ◌*◌}
use native.Mathlib.Omega.{arith}
use borrow.Author.Differences.{ints}
use lib.IntN.{ℤ, pos, negsuc, nat_abs, ◌+ℤ◌, ◌*ℤ◌}
use lib.Signed.{◌≤ℤ◌}

-- a square is a whole number that is not negative
pub square_is : (x : ℤ) → x *ℤ x ≡ pos (nat_abs x * nat_abs x)
square_is (pos n) = refl
square_is (negsuc n) = refl

-- a sum of four squares is not negative
pub not_negative : (a b c d : ℤ) → pos 0 ≤ℤ (a *ℤ a +ℤ b *ℤ b +ℤ c *ℤ c +ℤ d *ℤ d)
not_negative a b c d = omega (arith, ints, square_is a, square_is b, square_is c, square_is d)

root_zero : (n : ℕ) → n * n ≡ zero → n ≡ zero
root_zero zero e = refl
root_zero (suc n) e = omega arith

square_zero : (a : ℤ) → a *ℤ a ≡ pos 0 → a ≡ pos 0
square_zero (pos n) e = let h : n * n ≡ zero = omega (arith, ints, e) in let k = root_zero n h in omega (arith, ints)
square_zero (negsuc n) e = omega (arith, ints)

-- a sum of four squares is 0 only where each is
pub all_zero : (a b c d : ℤ) → a *ℤ a +ℤ b *ℤ b +ℤ c *ℤ c +ℤ d *ℤ d ≡ pos 0 → (a ≡ pos 0) × (b ≡ pos 0) × (c ≡ pos 0) × (d ≡ pos 0)
all_zero a b c d e =
    let s = square_is a in
    let t = square_is b in
    let u = square_is c in
    let v = square_is d in
    (square_zero a (omega (arith, ints)), square_zero b (omega (arith, ints)), square_zero c (omega (arith, ints)), square_zero d (omega (arith, ints)))
