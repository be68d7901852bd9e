-- Z[√2], the ring of the numbers a + b·√2, and its place in Z[ω].
-- Source: Hardy and Wright, An Introduction to the Theory of Numbers, chapter XIV; for circuits Giles and Selinger 2013.
use Rattle.std.specs.Prelude.{◌≡◌, ℕ, ◌%◌, ℤ, pos, ◌+ℤ◌, ◌*ℤ◌, ◌≤ℤ◌, neg_ℤ, nat_abs}
use Rattle.ring_laws.specs.Ring.{RingOps}
use Rattle.ring_laws.specs.Cyclotomic.{Zω, number}

-- a + b·√2, of any size
pub record Surd : Type 0 where
  pub a : ℤ
  pub b : ℤ

abbrev pub surd : ℤ → ℤ → Surd
surd a b = record { a = a; b = b }

unfoldable pub surd_integer : ℤ → Surd
surd_integer n = surd n (pos 0)

unfoldable pub surd_plus : Surd → Surd → Surd
surd_plus x y = surd (x.a +ℤ y.a) (x.b +ℤ y.b)

unfoldable pub surd_negative : Surd → Surd
surd_negative x = surd (neg_ℤ x.a) (neg_ℤ x.b)

-- by √2·√2 = 2
unfoldable pub surd_times : Surd → Surd → Surd
surd_times x y = surd (x.a *ℤ y.a +ℤ pos 2 *ℤ (x.b *ℤ y.b)) (x.a *ℤ y.b +ℤ x.b *ℤ y.a)

abbrev pub surds : RingOps
surds = record { Carrier = Surd; add = surd_plus; mul = surd_times; neg = surd_negative; num = surd_integer }

abbrev pub zero_surd : Surd
zero_surd = surd_integer (pos 0)

abbrev pub one_surd : Surd
one_surd = surd_integer (pos 1)

-- √2
unfoldable pub root2_surd : Surd
root2_surd = surd (pos 0) (pos 1)

-- among the numbers of Z[ω]: √2 is ω − ω³
unfoldable pub embed : Surd → Zω
embed x = number x.a x.b (pos 0) (neg_ℤ x.b)

-- a map between rings that keeps their operations and the whole numbers
pub record IsRingHomomorphism (O P : RingOps) (f : O.Carrier → P.Carrier) : Type 0 where
  pub add : (x y : O.Carrier) → f (O.add x y) ≡ P.add (f x) (f y)
  pub mul : (x y : O.Carrier) → f (O.mul x y) ≡ P.mul (f x) (f y)
  pub neg : (x : O.Carrier) → f (O.neg x) ≡ P.neg (f x)
  pub num : (n : ℤ) → f (O.num n) ≡ P.num n

-- a and b are at most the bound in absolute value
pub record SurdWithin (bound : ℕ) (x : Surd) : Type 0 where
  pub low_a : neg_ℤ (pos bound) ≤ℤ x.a
  pub high_a : x.a ≤ℤ pos bound
  pub low_b : neg_ℤ (pos bound) ≤ℤ x.b
  pub high_b : x.b ≤ℤ pos bound

-- a whole number that is odd
abbrev pub IsOdd : ℤ → Type 0
IsOdd n = nat_abs n % 2 ≡ 1
