-- Lemmas for the crates above: Z[√2] is a commutative ring, and a part of Z[ω].
use Rattle.std.proofs.Common.{◌≡◌, ℕ, zero, suc, ◌+◌, ◌*◌, ◌≤◌, [], ◌∷◌, refl, ap, sym, ◌∙◌, arith}
use Rattle.std.specs.Prelude.{ℤ, pos, ◌+ℤ◌, ◌*ℤ◌}
use Rattle.std.proofs.lemmas.Int.{ints}
use Rattle.ring_laws.specs.Ring.{RingLaws, power}
use Rattle.ring_laws.specs.Cyclotomic.{Zω, plus, times, negative, integer, cyclotomics, root2}
use Rattle.ring_laws.proofs.Ring as laws
use Rattle.ring_laws.proofs.Integers.{integers_laws}
use Rattle.ring_laws.proofs.Cyclotomic.{coordinatewise}
use Rattle.ring_laws.proofs.Reader.{ring, reads}
use Rattle.tc_ring.specs.Surds.{Surd, surd, surds, surd_integer, surd_plus, surd_negative, surd_times, zero_surd, one_surd, root2_surd, embed, IsRingHomomorphism, SurdWithin, IsOdd}

-- numbers are equal where both parts are
pub same_surd : {x y : Surd} → x.a ≡ y.a → x.b ≡ y.b → x ≡ y
same_surd e f = λ i. record { a = e i; b = f i }

pub surd_plus_assoc : (x y z : Surd) → surd_plus (surd_plus x y) z ≡ surd_plus x (surd_plus y z)
unfolding surd_plus
surd_plus_assoc x y z =
    let xs = x.a ∷ x.b ∷ y.a ∷ y.b ∷ z.a ∷ z.b ∷ [] in
    same_surd (ring integers_laws xs (search reads depth 30 parts 0 fits 10000) tt) (ring integers_laws xs (search reads depth 30 parts 0 fits 10000) tt)

pub surd_plus_comm : (x y : Surd) → surd_plus x y ≡ surd_plus y x
unfolding surd_plus
surd_plus_comm x y =
    let xs = x.a ∷ x.b ∷ y.a ∷ y.b ∷ [] in
    same_surd (ring integers_laws xs (search reads depth 30 parts 0 fits 10000) tt) (ring integers_laws xs (search reads depth 30 parts 0 fits 10000) tt)

pub surd_plus-zero : (x : Surd) → surd_plus x zero_surd ≡ x
unfolding surd_plus surd_integer
surd_plus-zero x =
    let xs = x.a ∷ x.b ∷ [] in
    same_surd (ring integers_laws xs (search reads depth 30 parts 0 fits 10000) tt) (ring integers_laws xs (search reads depth 30 parts 0 fits 10000) tt)

pub surd_plus-negative : (x : Surd) → surd_plus x (surd_negative x) ≡ zero_surd
unfolding surd_plus surd_negative surd_integer
surd_plus-negative x =
    let xs = x.a ∷ x.b ∷ [] in
    same_surd (ring integers_laws xs (search reads depth 30 parts 0 fits 10000) tt) (ring integers_laws xs (search reads depth 30 parts 0 fits 10000) tt)

pub surd_times_assoc : (x y z : Surd) → surd_times (surd_times x y) z ≡ surd_times x (surd_times y z)
unfolding surd_times
surd_times_assoc x y z =
    let xs = x.a ∷ x.b ∷ y.a ∷ y.b ∷ z.a ∷ z.b ∷ [] in
    same_surd (ring integers_laws xs (search reads depth 30 parts 0 fits 10000) tt) (ring integers_laws xs (search reads depth 30 parts 0 fits 10000) tt)

pub surd_times_comm : (x y : Surd) → surd_times x y ≡ surd_times y x
unfolding surd_times
surd_times_comm x y =
    let xs = x.a ∷ x.b ∷ y.a ∷ y.b ∷ [] in
    same_surd (ring integers_laws xs (search reads depth 30 parts 0 fits 10000) tt) (ring integers_laws xs (search reads depth 30 parts 0 fits 10000) tt)

pub surd_times-one : (x : Surd) → surd_times x one_surd ≡ x
unfolding surd_times surd_integer
surd_times-one x =
    let xs = x.a ∷ x.b ∷ [] in
    same_surd (ring integers_laws xs (search reads depth 30 parts 0 fits 10000) tt) (ring integers_laws xs (search reads depth 30 parts 0 fits 10000) tt)

pub surd_times-plus : (x y z : Surd) → surd_times x (surd_plus y z) ≡ surd_plus (surd_times x y) (surd_times x z)
unfolding surd_times surd_plus
surd_times-plus x y z =
    let xs = x.a ∷ x.b ∷ y.a ∷ y.b ∷ z.a ∷ z.b ∷ [] in
    same_surd (ring integers_laws xs (search reads depth 30 parts 0 fits 10000) tt) (ring integers_laws xs (search reads depth 30 parts 0 fits 10000) tt)

pub surd_integer-plus : (m n : ℤ) → surd_integer (m +ℤ n) ≡ surd_plus (surd_integer m) (surd_integer n)
unfolding surd_plus surd_integer
surd_integer-plus m n = refl

pub surd_integer-times : (m n : ℤ) → surd_integer (m *ℤ n) ≡ surd_times (surd_integer m) (surd_integer n)
unfolding surd_times surd_integer
surd_integer-times m n =
    let xs = m ∷ n ∷ [] in
    same_surd (ring integers_laws xs (search reads depth 30 parts 0 fits 10000) tt) (ring integers_laws xs (search reads depth 30 parts 0 fits 10000) tt)

abbrev pub surds_laws : RingLaws surds
surds_laws = record {
  add_assoc = surd_plus_assoc;
  add_comm = surd_plus_comm;
  add-zero = surd_plus-zero;
  add-neg = surd_plus-negative;
  mul_assoc = surd_times_assoc;
  mul_comm = surd_times_comm;
  mul-one = surd_times-one;
  mul-add = surd_times-plus;
  num-add = surd_integer-plus;
  num-mul = surd_integer-times;
}

-- ---- √2
pub root2_surd-squared : surd_times root2_surd root2_surd ≡ surd_integer (pos 2)
unfolding surd_times root2_surd surd_integer
root2_surd-squared = refl

pub root2_surd-times : (x : Surd) → surd_times root2_surd x ≡ surd (pos 2 *ℤ x.b) x.a
unfolding surd_times root2_surd
root2_surd-times x =
    let xs = x.a ∷ x.b ∷ [] in
    same_surd (ring integers_laws xs (search reads depth 30 parts 0 fits 10000) tt) (ring integers_laws xs (search reads depth 30 parts 0 fits 10000) tt)

-- a number that is √2 times another has an even whole part
pub odd_is_no_multiple : (x y : Surd) → IsOdd y.a → surd_times root2_surd x ≡ y → ⊥
odd_is_no_multiple x y odd e = let even : pos 2 *ℤ x.b ≡ y.a = ap (λ (s : Surd). s.a) (sym (root2_surd-times x) ∙ e) in omega (arith, ints)

pub cancel_root2_surd : (x y : Surd) → surd_times root2_surd x ≡ surd_times root2_surd y → x ≡ y
cancel_root2_surd x y h =
    let e = sym (root2_surd-times x) ∙ h ∙ root2_surd-times y in
    let twice : pos 2 *ℤ x.b ≡ pos 2 *ℤ y.b = ap (λ (s : Surd). s.a) e in
    same_surd (ap (λ (s : Surd). s.b) e) (omega (arith, ints))

-- a power of √2 cancels
pub cancel_root2_power : (k : ℕ) (x y : Surd) → surd_times (power surds root2_surd k) x ≡ surd_times (power surds root2_surd k) y → x ≡ y
unfolding power
cancel_root2_power zero x y h = sym (laws.one-mul surds_laws x) ∙ h ∙ laws.one-mul surds_laws y
cancel_root2_power (suc k) x y h =
    cancel_root2_power k x y (cancel_root2_surd _ _ (sym (surd_times_assoc root2_surd (power surds root2_surd k) x) ∙ h ∙ surd_times_assoc root2_surd (power surds root2_surd k) y))

-- ---- Z[√2] in Z[ω]
pub embed-plus : (x y : Surd) → embed (surd_plus x y) ≡ plus (embed x) (embed y)
unfolding embed surd_plus plus
embed-plus x y =
    let xs = x.a ∷ x.b ∷ y.a ∷ y.b ∷ [] in
    coordinatewise record { x0 = ring integers_laws xs (search reads depth 30 parts 0 fits 10000) tt; x1 = ring integers_laws xs (search reads depth 30 parts 0 fits 10000) tt; x2 = ring integers_laws xs (search reads depth 30 parts 0 fits 10000) tt; x3 = ring integers_laws xs (search reads depth 30 parts 0 fits 10000) tt }

pub embed-times : (x y : Surd) → embed (surd_times x y) ≡ times (embed x) (embed y)
unfolding embed surd_times times
embed-times x y =
    let xs = x.a ∷ x.b ∷ y.a ∷ y.b ∷ [] in
    coordinatewise record { x0 = ring integers_laws xs (search reads depth 30 parts 0 fits 10000) tt; x1 = ring integers_laws xs (search reads depth 30 parts 0 fits 10000) tt; x2 = ring integers_laws xs (search reads depth 30 parts 0 fits 10000) tt; x3 = ring integers_laws xs (search reads depth 30 parts 0 fits 10000) tt }

pub embed-negative : (x : Surd) → embed (surd_negative x) ≡ negative (embed x)
unfolding embed surd_negative negative
embed-negative x =
    let xs = x.a ∷ x.b ∷ [] in
    coordinatewise record { x0 = ring integers_laws xs (search reads depth 30 parts 0 fits 10000) tt; x1 = ring integers_laws xs (search reads depth 30 parts 0 fits 10000) tt; x2 = ring integers_laws xs (search reads depth 30 parts 0 fits 10000) tt; x3 = ring integers_laws xs (search reads depth 30 parts 0 fits 10000) tt }

pub embed-integer : (n : ℤ) → embed (surd_integer n) ≡ integer n
unfolding embed surd_integer integer
embed-integer n = refl

pub embed-root2 : embed root2_surd ≡ root2
unfolding embed root2_surd root2
embed-root2 = refl

pub embedding : IsRingHomomorphism surds cyclotomics embed
embedding = record { add = embed-plus; mul = embed-times; neg = embed-negative; num = embed-integer }

pub embed_injective : (x y : Surd) → embed x ≡ embed y → x ≡ y
unfolding embed
embed_injective x y e = same_surd (ap (λ (w : Zω). w.x0) e) (ap (λ (w : Zω). w.x1) e)

-- ---- bounds
pub surd_within_more : (a b : ℕ) (x : Surd) → a ≤ b → SurdWithin a x → SurdWithin b x
surd_within_more a b x l small = record { low_a = omega (arith, ints); high_a = omega (arith, ints); low_b = omega (arith, ints); high_b = omega (arith, ints) }

pub surd_within_plus : (a b : ℕ) (x y : Surd) → SurdWithin a x → SurdWithin b y → SurdWithin (a + b) (surd_plus x y)
unfolding surd_plus
surd_within_plus a b x y left right = record { low_a = omega (arith, ints); high_a = omega (arith, ints); low_b = omega (arith, ints); high_b = omega (arith, ints) }

pub surd_within_negative : (a : ℕ) (x : Surd) → SurdWithin a x → SurdWithin a (surd_negative x)
unfolding surd_negative
surd_within_negative a x small = record { low_a = omega (arith, ints); high_a = omega (arith, ints); low_b = omega (arith, ints); high_b = omega (arith, ints) }

pub surd_within_root2 : (a : ℕ) (x : Surd) → SurdWithin a x → SurdWithin (2 * a) (surd_times root2_surd x)
unfolding surd_times root2_surd
surd_within_root2 a x small = record { low_a = omega (arith, ints); high_a = omega (arith, ints); low_b = omega (arith, ints); high_b = omega (arith, ints) }
