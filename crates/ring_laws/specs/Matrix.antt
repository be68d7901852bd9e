-- Finite sums, and matrices as functions of a row and a column, over the operations of a ring.
-- Source: Lang, Algebra, chapter XIII; the Kronecker product as in Horn and Johnson, Topics in Matrix Analysis, chapter 4.
use Rattle.std.specs.Prelude.{◌≡◌, ℕ, zero, suc, ◌/◌, ◌%◌, ◌<◌, cond, pos}
use lib.Dec.{eqb}
use Rattle.ring_laws.specs.Ring.{RingOps}

module _ (O : RingOps) where
  open O use {Carrier, add, mul, num}

  -- f 0 + f 1 + .. + f (n − 1)
  unfoldable pub sum : ℕ → (ℕ → Carrier) → Carrier
  sum zero f = num (pos 0)
  sum (suc n) f = add (sum n f) (f n)

  -- a·b, the sum over n middle indices
  unfoldable pub product : ℕ → (ℕ → ℕ → Carrier) → (ℕ → ℕ → Carrier) → ℕ → ℕ → Carrier
  product n a b row column = sum n (λ k. mul (a row k) (b k column))

  unfoldable pub identity : ℕ → ℕ → Carrier
  identity row column = cond (eqb row column) (num (pos 1)) (num (pos 0))

  -- a ⊗ b, with b of size n
  unfoldable pub kronecker : ℕ → (ℕ → ℕ → Carrier) → (ℕ → ℕ → Carrier) → ℕ → ℕ → Carrier
  kronecker n a b row column = mul (a (row / n) (column / n)) (b (row % n) (column % n))

  -- the same entry at each row and column below n
  abbrev pub Agree : ℕ → (ℕ → ℕ → Carrier) → (ℕ → ℕ → Carrier) → Type 0
  Agree n a b = (row column : ℕ) → row < n → column < n → a row column ≡ b row column
