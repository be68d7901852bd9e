-- Lemmas for the crates above: equality of numbers, and a search below a bound, as tests that compute.
use Rattle.std.proofs.Common.{◌≡◌, ℕ, zero, suc, ◌<◌, Bool, true, false, ◌&&◌, ◌||◌, T, eqb, refl, ap, sym, subst, arith, eqb→eq}
use lib.Dec.{eqb_refl}
use Rattle.std.specs.Prelude.{ℤ, pos, negsuc}
use Rattle.ring_laws.specs.Cyclotomic.{Zω}
use Rattle.ring_laws.proofs.Cyclotomic.{coordinatewise}
use Rattle.pauli_basis.proofs.Small.{and_left, and_right}

-- a test whether two whole numbers are equal
abbrev pub same_int : ℤ → ℤ → Bool
same_int (pos m) (pos n) = eqb m n
same_int (negsuc m) (negsuc n) = eqb m n
same_int (pos m) (negsuc n) = false
same_int (negsuc m) (pos n) = false

-- whole numbers that pass it are
pub int_equal : (x y : ℤ) → T (same_int x y) → x ≡ y
int_equal (pos m) (pos n) h = ap pos (eqb→eq m n h)
int_equal (negsuc m) (negsuc n) h = ap negsuc (eqb→eq m n h)
int_equal (pos m) (negsuc n) h = absurd h
int_equal (negsuc m) (pos n) h = absurd h

-- a test whether two numbers are equal
abbrev pub same_number : Zω → Zω → Bool
same_number a b = same_int a.x0 b.x0 && (same_int a.x1 b.x1 && (same_int a.x2 b.x2 && same_int a.x3 b.x3))

-- numbers that pass the test are equal
pub number_equal : (a b : Zω) → T (same_number a b) → a ≡ b
number_equal a b h =
    let h1 = and_right (same_int a.x0 b.x0) _ h in
    let h2 = and_right (same_int a.x1 b.x1) _ h1 in
    coordinatewise record {
      x0 = int_equal a.x0 b.x0 (and_left (same_int a.x0 b.x0) _ h);
      x1 = int_equal a.x1 b.x1 (and_left (same_int a.x1 b.x1) _ h1);
      x2 = int_equal a.x2 b.x2 (and_left (same_int a.x2 b.x2) _ h2);
      x3 = int_equal a.x3 b.x3 (and_right (same_int a.x2 b.x2) _ h2);
    }

-- and the other way round, of whole numbers
pub int_same : (x y : ℤ) → x ≡ y → T (same_int x y)
int_same x y e = subst (λ z. T (same_int x z)) e (itself x)
  where
    itself : (x : ℤ) → T (same_int x x)
    itself (pos n) = eqb_refl n
    itself (negsuc n) = eqb_refl n

-- a test that passes below n
abbrev pub some_below : ℕ → (ℕ → Bool) → Bool
some_below zero f = false
some_below (suc n) f = f n || some_below n f

-- one that does
pub some_at : (n : ℕ) (f : ℕ → Bool) → T (some_below n f) → (k : ℕ) × (k < n) × T (f k)
some_at zero f h = absurd h
some_at (suc n) f h = by (f n) refl h (some_at n f)
  where
    by : (b : Bool) → f n ≡ b → T (b || some_below n f) → (T (some_below n f) → (k : ℕ) × (k < n) × T (f k)) → (k : ℕ) × (k < suc n) × T (f k)
    by true e h ih = (n, omega arith, subst T (sym e) tt)
    by false e h ih = let found = ih h in (found.0, omega (arith, found.1), found.2)
