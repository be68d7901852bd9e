-- Commutative rings: their operations and laws as records, and powers.
-- Source: Lang, Algebra, chapter II; the image of the whole numbers is the one ring homomorphism from ℤ.
use Rattle.std.specs.Prelude.{◌≡◌, ℕ, zero, suc, ℤ, pos, ◌+ℤ◌, ◌*ℤ◌, neg_ℤ}

-- what a definition names: zero is `num (pos 0)`, and one is `num (pos 1)`
pub record RingOps : Type 1 where
  pub Carrier : Type 0
  pub add : Carrier → Carrier → Carrier
  pub mul : Carrier → Carrier → Carrier
  pub neg : Carrier → Carrier
  pub num : ℤ → Carrier

-- what a proof takes: the operations are those of a commutative ring
pub record RingLaws (O : RingOps) : Type 0 where
  pub add_assoc : (a b c : O.Carrier) → O.add (O.add a b) c ≡ O.add a (O.add b c)
  pub add_comm : (a b : O.Carrier) → O.add a b ≡ O.add b a
  pub add-zero : (a : O.Carrier) → O.add a (O.num (pos 0)) ≡ a
  pub add-neg : (a : O.Carrier) → O.add a (O.neg a) ≡ O.num (pos 0)
  pub mul_assoc : (a b c : O.Carrier) → O.mul (O.mul a b) c ≡ O.mul a (O.mul b c)
  pub mul_comm : (a b : O.Carrier) → O.mul a b ≡ O.mul b a
  pub mul-one : (a : O.Carrier) → O.mul a (O.num (pos 1)) ≡ a
  pub mul-add : (a b c : O.Carrier) → O.mul a (O.add b c) ≡ O.add (O.mul a b) (O.mul a c)
  pub num-add : (m n : ℤ) → O.num (m +ℤ n) ≡ O.add (O.num m) (O.num n)
  pub num-mul : (m n : ℤ) → O.num (m *ℤ n) ≡ O.mul (O.num m) (O.num n)

-- the whole numbers
abbrev pub integers : RingOps
integers = record { Carrier = ℤ; add = ◌+ℤ◌; mul = ◌*ℤ◌; neg = neg_ℤ; num = λ z. z }

-- a · .. · a, k factors
unfoldable pub power : (O : RingOps) → O.Carrier → ℕ → O.Carrier
power O a zero = O.num (pos 1)
power O a (suc k) = O.mul a (power O a k)
