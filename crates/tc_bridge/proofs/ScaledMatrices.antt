-- Lemmas for the crates above: matrices over a power of √2: equal ones, equal ones up to a power of ω, and their products.
use Rattle.std.proofs.Common.{◌≡◌, ℕ, ◌+◌, ◌%◌, ◌^◌, ◌<◌, refl, ap, sym, ◌∙◌, zero-add, add-zero, add_assoc, add_comm, mod-lt, lit<}
use Rattle.ring_laws.specs.Ring.{power}
use Rattle.ring_laws.specs.Matrix.{identity}
use Rattle.ring_laws.specs.Cyclotomic.{cyclotomics, times, ω, root2}
use Rattle.ring_laws.proofs.Ring.{power-add, power-zero}
use Rattle.tc_bridge.proofs.Matrices.{Alike, ◌⊙◌, alike-refl, alike-sym, assoc, multiple, multiple-cong, multiple_comm, multiple-factor, multiple-multiple, multiple-one, multiple-product, product-multiple, product-left, product-right, one-product, product-one}
use Rattle.ring_laws.proofs.Cyclotomic.{cyclotomics_laws as laws}
use Rattle.tc_circuit.specs.Model.{ScaledMatrix, SameUpTo}
use Rattle.tc_bridge.specs.Rotation.{scaled_product, AreEqual}
use Rattle.tc_bridge.proofs.Powers.{cancel_multiple, ω-mod}

-- one matrix, both brought to one power of √2
pub record Equal (n : ℕ) (a b : ScaledMatrix) : Type 0 where
  pub is : Alike cyclotomics (2 ^ n) (multiple cyclotomics (power cyclotomics root2 b.exponent) a.table) (multiple cyclotomics (power cyclotomics root2 a.exponent) b.table)

-- the identity
abbrev pub one : ScaledMatrix
one = record { table = identity cyclotomics; exponent = 0 }

-- ω^j·a
abbrev pub turned : ℕ → ScaledMatrix → ScaledMatrix
turned j a = record { table = multiple cyclotomics (power cyclotomics ω j) a.table; exponent = a.exponent }

-- equal up to a power of ω
pub record Near (n : ℕ) (a b : ScaledMatrix) : Type 0 where
  pub turn : ℕ
  pub is : Equal n a (turned turn b)

module _ {n : ℕ} where
  -- ---- equal matrices
  pub equal_tables : (a b : ScaledMatrix) → a.exponent ≡ b.exponent → Alike cyclotomics (2 ^ n) a.table b.table → Equal n a b
  equal_tables a b e h = record { is = multiple-cong laws _ h ⊙ multiple-factor laws (ap (power cyclotomics root2) (sym e)) b.table }

  -- each matrix is equal to itself
  pub equal-refl : (a : ScaledMatrix) → Equal n a a
  equal-refl a = record { is = alike-refl _ }

  -- an equation the other way round
  pub equal-sym : {a b : ScaledMatrix} → Equal n a b → Equal n b a
  equal-sym h = record { is = alike-sym h.is }

  infixr 30 ◌⊚◌
  -- one equation after another
  pub ◌⊚◌ : {a b c : ScaledMatrix} → Equal n a b → Equal n b c → Equal n a c
  ◌⊚◌ {a} {b} {c} h g = record {
    is = cancel_multiple b.exponent _ _ (
        multiple_comm laws _ _ a.table ⊙ multiple-cong laws _ h.is ⊙ multiple_comm laws _ _ b.table ⊙ multiple-cong laws _ g.is ⊙ multiple_comm laws _ _ c.table);
  }

  -- ---- products
  pub mul-left : (a : ScaledMatrix) {b b' : ScaledMatrix} → Equal n b b' → Equal n (scaled_product n a b) (scaled_product n a b')
  mul-left a {b} {b'} h = record {
    is =
        multiple-factor laws (power-add laws root2 a.exponent b'.exponent) _ ⊙ alike-sym (multiple-multiple laws _ _ _)
        ⊙ multiple-cong laws _ (alike-sym (product-multiple laws _ a.table b.table) ⊙ product-left laws a.table h.is ⊙ product-multiple laws _ a.table b'.table)
        ⊙ multiple-multiple laws _ _ _ ⊙ multiple-factor laws (sym (power-add laws root2 a.exponent b.exponent)) _;
  }

  -- of equal first factors
  pub mul-right : {a a' : ScaledMatrix} → Equal n a a' → (b : ScaledMatrix) → Equal n (scaled_product n a b) (scaled_product n a' b)
  mul-right {a} {a'} h b = record {
    is =
        multiple-factor laws (swapped a'.exponent) _ ⊙ alike-sym (multiple-multiple laws _ _ _)
        ⊙ multiple-cong laws _ (alike-sym (multiple-product laws _ a.table b.table) ⊙ product-right laws h.is b.table ⊙ multiple-product laws _ a'.table b.table)
        ⊙ multiple-multiple laws _ _ _ ⊙ multiple-factor laws (sym (swapped a.exponent)) _;
  }
    where
      swapped : (k : ℕ) → power cyclotomics root2 (k + b.exponent) ≡ times (power cyclotomics root2 b.exponent) (power cyclotomics root2 k)
      swapped k = ap (power cyclotomics root2) (add_comm k b.exponent) ∙ power-add laws root2 b.exponent k

  -- products in any order
  pub mul_assoc : (a b c : ScaledMatrix) → Equal n (scaled_product n (scaled_product n a b) c) (scaled_product n a (scaled_product n b c))
  mul_assoc a b c = equal_tables _ _ (add_assoc a.exponent b.exponent c.exponent) (assoc laws a.table b.table c.table)

  -- I·a and a·I are a
  pub one-mul : (a : ScaledMatrix) → Equal n (scaled_product n one a) a
  one-mul a = equal_tables _ _ (zero-add a.exponent) (one-product laws a.table)

  pub mul-one : (a : ScaledMatrix) → Equal n (scaled_product n a one) a
  mul-one a = equal_tables _ _ (add-zero a.exponent) (product-one laws a.table)

  -- ---- powers of ω
  pub turned-cong : (j : ℕ) {a b : ScaledMatrix} → Equal n a b → Equal n (turned j a) (turned j b)
  turned-cong j {a} {b} h = record { is = multiple_comm laws _ _ a.table ⊙ multiple-cong laws _ h.is ⊙ multiple_comm laws _ _ b.table }

  -- ω⁰ is 1
  pub turned-zero : (a : ScaledMatrix) → Equal n (turned 0 a) a
  turned-zero a = equal_tables _ _ refl (multiple-factor laws (power-zero laws ω) a.table ⊙ multiple-one laws a.table)

  -- two powers are one
  pub turned-turned : (i j : ℕ) (a : ScaledMatrix) → Equal n (turned i (turned j a)) (turned (i + j) a)
  turned-turned i j a = equal_tables _ _ refl (multiple-multiple laws _ _ a.table ⊙ multiple-factor laws (sym (power-add laws ω i j)) a.table)

  -- a power before a factor stands before the product
  pub turned-mul : (j : ℕ) (a b : ScaledMatrix) → Equal n (scaled_product n (turned j a) b) (turned j (scaled_product n a b))
  turned-mul j a b = equal_tables _ _ refl (multiple-product laws _ a.table b.table)

  pub mul-turned : (j : ℕ) (a b : ScaledMatrix) → Equal n (scaled_product n a (turned j b)) (turned j (scaled_product n a b))
  mul-turned j a b = equal_tables _ _ refl (product-multiple laws _ a.table b.table)

  -- ---- equal up to a power of ω
  pub near : {a b : ScaledMatrix} → Equal n a b → Near n a b
  near {a} {b} h = record { turn = 0; is = h ⊚ equal-sym (turned-zero b) }

  infixr 30 ◌⊛◌
  -- one after another
  pub ◌⊛◌ : {a b c : ScaledMatrix} → Near n a b → Near n b c → Near n a c
  ◌⊛◌ {a} {b} {c} h g = record { turn = h.turn + g.turn; is = h.is ⊚ turned-cong h.turn g.is ⊚ turned-turned h.turn g.turn c }

  -- in a product
  pub near-left : (a : ScaledMatrix) {b b' : ScaledMatrix} → Near n b b' → Near n (scaled_product n a b) (scaled_product n a b')
  near-left a {b} {b'} h = record { turn = h.turn; is = mul-left a h.is ⊚ mul-turned h.turn a b' }

  pub near-right : {a a' : ScaledMatrix} → Near n a a' → (b : ScaledMatrix) → Near n (scaled_product n a b) (scaled_product n a' b)
  near-right {a} {a'} h b = record { turn = h.turn; is = mul-right h.is b ⊚ turned-mul h.turn a' b }

  -- ---- entry by entry
  pub equal_entries : (a b : ScaledMatrix) → Equal n a b → AreEqual (2 ^ n) a b
  unfolding multiple
  equal_entries a b h = h.is.at

  -- one of the eight powers
  pub near_entries : (a b : ScaledMatrix) → Near n a b → (j : ℕ) × (j < 8) × SameUpTo (2 ^ n) j a b
  unfolding multiple
  near_entries a b h = (h.turn % 8, mod-lt h.turn {m = 8} (lit< tt), (h.is ⊚ equal_tables _ _ refl (multiple-factor laws (ω-mod h.turn) b.table)).is.at)
