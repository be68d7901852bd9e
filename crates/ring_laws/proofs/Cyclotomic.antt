-- Lemmas for the crates above: Z[ω] is a commutative ring, and identities over it.
use mathlib.Core.Path.{◌≡◌, refl, sym, ap, ◌∙◌}
use mathlib.Core.List.{List, [], ◌∷◌}
use Prim.Native.Nat.{ℕ, zero, suc, ◌+◌}
use native.Mathlib.Omega.{arith}
use borrow.Author.Differences.{ints}
use lib.IntN.{ℤ, pos, ◌+ℤ◌, ◌-ℤ◌, ◌*ℤ◌}
use Rattle.ring_laws.specs.Ring.{RingLaws, integers, power}
use Rattle.ring_laws.specs.Cyclotomic.{Cyclotomic, Zω, number, cyclotomics, integer, plus, negative, times, conjugate, ω, root2, zero_number, one_number, norm_whole, norm_root}
use Rattle.ring_laws.proofs.Ring as laws
use Rattle.ring_laws.proofs.Integers.{integers_laws}
use Rattle.ring_laws.proofs.Reader.{ring, reads}

-- numbers are equal where their coordinates are
pub coordinatewise : {A : Type 0} {x y : Cyclotomic A} → record { x0 : x.x0 ≡ y.x0; x1 : x.x1 ≡ y.x1; x2 : x.x2 ≡ y.x2; x3 : x.x3 ≡ y.x3 } → x ≡ y
coordinatewise s = λ i. record { x0 = s.x0 i; x1 = s.x1 i; x2 = s.x2 i; x3 = s.x3 i }

abbrev pub coordinates : Zω → List ℤ → List ℤ
coordinates x xs = x.x0 ∷ x.x1 ∷ x.x2 ∷ x.x3 ∷ xs

pub plus_assoc : (x y z : Zω) → plus (plus x y) z ≡ plus x (plus y z)
unfolding plus
plus_assoc x y z =
    let xs = (coordinates x (coordinates y (coordinates z []))) in
    coordinatewise record {
      x0 = ring integers_laws xs (search reads depth 30 parts 0 fits 10000) tt;
      x1 = ring integers_laws xs (search reads depth 30 parts 0 fits 10000) tt;
      x2 = ring integers_laws xs (search reads depth 30 parts 0 fits 10000) tt;
      x3 = ring integers_laws xs (search reads depth 30 parts 0 fits 10000) tt;
    }

pub plus_comm : (x y : Zω) → plus x y ≡ plus y x
unfolding plus
plus_comm x y =
    let xs = (coordinates x (coordinates y [])) in
    coordinatewise record {
      x0 = ring integers_laws xs (search reads depth 30 parts 0 fits 10000) tt;
      x1 = ring integers_laws xs (search reads depth 30 parts 0 fits 10000) tt;
      x2 = ring integers_laws xs (search reads depth 30 parts 0 fits 10000) tt;
      x3 = ring integers_laws xs (search reads depth 30 parts 0 fits 10000) tt;
    }

pub plus-zero : (x : Zω) → plus x (integer (pos 0)) ≡ x
unfolding plus integer
plus-zero x =
    let xs = (coordinates x []) in
    coordinatewise record {
      x0 = ring integers_laws xs (search reads depth 30 parts 0 fits 10000) tt;
      x1 = ring integers_laws xs (search reads depth 30 parts 0 fits 10000) tt;
      x2 = ring integers_laws xs (search reads depth 30 parts 0 fits 10000) tt;
      x3 = ring integers_laws xs (search reads depth 30 parts 0 fits 10000) tt;
    }

pub plus-negative : (x : Zω) → plus x (negative x) ≡ integer (pos 0)
unfolding plus negative integer
plus-negative x =
    let xs = (coordinates x []) in
    coordinatewise record {
      x0 = ring integers_laws xs (search reads depth 30 parts 0 fits 10000) tt;
      x1 = ring integers_laws xs (search reads depth 30 parts 0 fits 10000) tt;
      x2 = ring integers_laws xs (search reads depth 30 parts 0 fits 10000) tt;
      x3 = ring integers_laws xs (search reads depth 30 parts 0 fits 10000) tt;
    }

pub times_assoc : (x y z : Zω) → times (times x y) z ≡ times x (times y z)
unfolding times
times_assoc x y z =
    let xs = (coordinates x (coordinates y (coordinates z []))) in
    coordinatewise record {
      x0 = ring integers_laws xs (search reads depth 30 parts 0 fits 10000) tt;
      x1 = ring integers_laws xs (search reads depth 30 parts 0 fits 10000) tt;
      x2 = ring integers_laws xs (search reads depth 30 parts 0 fits 10000) tt;
      x3 = ring integers_laws xs (search reads depth 30 parts 0 fits 10000) tt;
    }

pub times_comm : (x y : Zω) → times x y ≡ times y x
unfolding times
times_comm x y =
    let xs = (coordinates x (coordinates y [])) in
    coordinatewise record {
      x0 = ring integers_laws xs (search reads depth 30 parts 0 fits 10000) tt;
      x1 = ring integers_laws xs (search reads depth 30 parts 0 fits 10000) tt;
      x2 = ring integers_laws xs (search reads depth 30 parts 0 fits 10000) tt;
      x3 = ring integers_laws xs (search reads depth 30 parts 0 fits 10000) tt;
    }

pub times-one : (x : Zω) → times x (integer (pos 1)) ≡ x
unfolding times integer
times-one x =
    let xs = (coordinates x []) in
    coordinatewise record {
      x0 = ring integers_laws xs (search reads depth 30 parts 0 fits 10000) tt;
      x1 = ring integers_laws xs (search reads depth 30 parts 0 fits 10000) tt;
      x2 = ring integers_laws xs (search reads depth 30 parts 0 fits 10000) tt;
      x3 = ring integers_laws xs (search reads depth 30 parts 0 fits 10000) tt;
    }

pub times-plus : (x y z : Zω) → times x (plus y z) ≡ plus (times x y) (times x z)
unfolding times plus
times-plus x y z =
    let xs = (coordinates x (coordinates y (coordinates z []))) in
    coordinatewise record {
      x0 = ring integers_laws xs (search reads depth 30 parts 0 fits 10000) tt;
      x1 = ring integers_laws xs (search reads depth 30 parts 0 fits 10000) tt;
      x2 = ring integers_laws xs (search reads depth 30 parts 0 fits 10000) tt;
      x3 = ring integers_laws xs (search reads depth 30 parts 0 fits 10000) tt;
    }

pub integer-plus : (m n : ℤ) → integer (m +ℤ n) ≡ plus (integer m) (integer n)
unfolding plus integer
integer-plus m n = refl

pub integer-times : (m n : ℤ) → integer (m *ℤ n) ≡ times (integer m) (integer n)
unfolding times integer
integer-times m n =
    coordinatewise record {
      x0 = ring integers_laws (m ∷ n ∷ []) (search reads depth 30 parts 0 fits 10000) tt;
      x1 = ring integers_laws (m ∷ n ∷ []) (search reads depth 30 parts 0 fits 10000) tt;
      x2 = ring integers_laws (m ∷ n ∷ []) (search reads depth 30 parts 0 fits 10000) tt;
      x3 = ring integers_laws (m ∷ n ∷ []) (search reads depth 30 parts 0 fits 10000) tt;
    }

abbrev pub cyclotomics_laws : RingLaws cyclotomics
cyclotomics_laws = record {
  add_assoc = plus_assoc;
  add_comm = plus_comm;
  add-zero = plus-zero;
  add-neg = plus-negative;
  mul_assoc = times_assoc;
  mul_comm = times_comm;
  mul-one = times-one;
  mul-add = times-plus;
  num-add = integer-plus;
  num-mul = integer-times;
}

-- ---- what follows from the laws, at these numbers
pub zero-plus : (x : Zω) → plus zero_number x ≡ x
zero-plus = laws.zero-plus cyclotomics_laws

pub one-times : (x : Zω) → times one_number x ≡ x
one-times = laws.one-mul cyclotomics_laws

pub zero-times : (x : Zω) → times zero_number x ≡ zero_number
zero-times = laws.zero-mul cyclotomics_laws

pub times-zero : (x : Zω) → times x zero_number ≡ zero_number
times-zero = laws.mul-zero cyclotomics_laws

pub plus-times : (x y z : Zω) → times (plus x y) z ≡ plus (times x z) (times y z)
plus-times = laws.add-mul cyclotomics_laws

pub times_left_comm : (x y z : Zω) → times x (times y z) ≡ times y (times x z)
times_left_comm = laws.mul_left_comm cyclotomics_laws

pub times_times_comm : (x y z w : Zω) → times (times x y) (times z w) ≡ times (times x z) (times y w)
times_times_comm = laws.mul_mul_comm cyclotomics_laws

pub times-negative : (x y : Zω) → times x (negative y) ≡ negative (times x y)
times-negative = laws.mul-neg cyclotomics_laws

pub negative-times : (x y : Zω) → times (negative x) y ≡ negative (times x y)
negative-times = laws.neg-mul cyclotomics_laws

pub negative_one-times : (x : Zω) → times (negative one_number) x ≡ negative x
negative_one-times x = negative-times one_number x ∙ ap negative (one-times x)

-- ---- √2 and the powers of ω
pub root2-root2 : times root2 root2 ≡ integer (pos 2)
unfolding times integer root2
root2-root2 = refl

pub ω-fourth : power cyclotomics ω 4 ≡ negative one_number
unfolding power times integer negative ω
ω-fourth = refl

pub ω-eighth : power cyclotomics ω 8 ≡ one_number
unfolding power times integer ω
ω-eighth = refl

-- √2 = ω + ω⁷
pub root2_is : root2 ≡ plus ω (power cyclotomics ω 7)
unfolding power times integer plus root2 ω
root2_is = refl

pub ω-turns : (j : ℕ) → power cyclotomics ω (j + 8) ≡ power cyclotomics ω j
ω-turns j = laws.power-add cyclotomics_laws ω j 8 ∙ ap (times (power cyclotomics ω j)) ω-eighth ∙ times-one (power cyclotomics ω j)

pub root2-times : (x : Zω) → times root2 x ≡ number (x.x1 -ℤ x.x3) (x.x0 +ℤ x.x2) (x.x1 +ℤ x.x3) (x.x2 -ℤ x.x0)
unfolding times root2
root2-times x = coordinatewise record { x0 = omega (arith, ints); x1 = omega (arith, ints); x2 = omega (arith, ints); x3 = omega (arith, ints) }

cancel_coordinates : (x y : Zω) → (x.x1 -ℤ x.x3) ≡ (y.x1 -ℤ y.x3) → (x.x0 +ℤ x.x2) ≡ (y.x0 +ℤ y.x2) → (x.x1 +ℤ x.x3) ≡ (y.x1 +ℤ y.x3) → (x.x2 -ℤ x.x0) ≡ (y.x2 -ℤ y.x0) → x ≡ y
cancel_coordinates x y e0 e1 e2 e3 = coordinatewise record { x0 = omega (arith, ints); x1 = omega (arith, ints); x2 = omega (arith, ints); x3 = omega (arith, ints) }

cancel_root2_once : (x y : Zω) → times root2 x ≡ times root2 y → x ≡ y
cancel_root2_once x y h =
    let e = sym (root2-times x) ∙ h ∙ root2-times y in
    cancel_coordinates x y (ap (λ (w : Zω). w.x0) e) (ap (λ (w : Zω). w.x1) e) (ap (λ (w : Zω). w.x2) e) (ap (λ (w : Zω). w.x3) e)

-- a power of √2 cancels
pub cancel_root2 : (k : ℕ) (x y : Zω) → times (power cyclotomics root2 k) x ≡ times (power cyclotomics root2 k) y → x ≡ y
unfolding power
cancel_root2 zero x y h = sym (one-times x) ∙ h ∙ one-times y
cancel_root2 (suc k) x y h =
    cancel_root2 k x y (cancel_root2_once _ _ (sym (times_assoc root2 (power cyclotomics root2 k) x) ∙ h ∙ times_assoc root2 (power cyclotomics root2 k) y))

-- ---- the conjugate and the norm
pub conjugate-plus : (x y : Zω) → conjugate (plus x y) ≡ plus (conjugate x) (conjugate y)
unfolding conjugate plus
conjugate-plus x y =
    let xs = (coordinates x (coordinates y [])) in
    coordinatewise record {
      x0 = ring integers_laws xs (search reads depth 30 parts 0 fits 10000) tt;
      x1 = ring integers_laws xs (search reads depth 30 parts 0 fits 10000) tt;
      x2 = ring integers_laws xs (search reads depth 30 parts 0 fits 10000) tt;
      x3 = ring integers_laws xs (search reads depth 30 parts 0 fits 10000) tt;
    }

pub conjugate-times : (x y : Zω) → conjugate (times x y) ≡ times (conjugate x) (conjugate y)
unfolding conjugate times
conjugate-times x y =
    let xs = (coordinates x (coordinates y [])) in
    coordinatewise record {
      x0 = ring integers_laws xs (search reads depth 30 parts 0 fits 10000) tt;
      x1 = ring integers_laws xs (search reads depth 30 parts 0 fits 10000) tt;
      x2 = ring integers_laws xs (search reads depth 30 parts 0 fits 10000) tt;
      x3 = ring integers_laws xs (search reads depth 30 parts 0 fits 10000) tt;
    }

pub conjugate-conjugate : (x : Zω) → conjugate (conjugate x) ≡ x
unfolding conjugate
conjugate-conjugate x =
    let xs = (coordinates x []) in
    coordinatewise record {
      x0 = refl;
      x1 = ring integers_laws xs (search reads depth 30 parts 0 fits 10000) tt;
      x2 = ring integers_laws xs (search reads depth 30 parts 0 fits 10000) tt;
      x3 = ring integers_laws xs (search reads depth 30 parts 0 fits 10000) tt;
    }

-- the square of the absolute value
pub times-conjugate : (x : Zω) → times x (conjugate x) ≡ plus (integer (norm_whole integers x)) (times (integer (norm_root integers x)) root2)
unfolding conjugate times plus integer root2
times-conjugate x =
    let xs = (coordinates x []) in
    coordinatewise record {
      x0 = ring integers_laws xs (search reads depth 30 parts 0 fits 10000) tt;
      x1 = ring integers_laws xs (search reads depth 30 parts 0 fits 10000) tt;
      x2 = ring integers_laws xs (search reads depth 30 parts 0 fits 10000) tt;
      x3 = ring integers_laws xs (search reads depth 30 parts 0 fits 10000) tt;
    }

pub norm_whole-times : (x y : Zω) → norm_whole integers (times x y) ≡ norm_whole integers x *ℤ norm_whole integers y +ℤ pos 2 *ℤ (norm_root integers x *ℤ norm_root integers y)
unfolding times
norm_whole-times x y = ring integers_laws (coordinates x (coordinates y [])) (search reads depth 30 parts 0 fits 10000) tt

pub norm_root-times : (x y : Zω) → norm_root integers (times x y) ≡ norm_whole integers x *ℤ norm_root integers y +ℤ norm_root integers x *ℤ norm_whole integers y
unfolding times
norm_root-times x y = ring integers_laws (coordinates x (coordinates y [])) (search reads depth 30 parts 0 fits 10000) tt
