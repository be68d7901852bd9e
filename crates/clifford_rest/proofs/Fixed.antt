-- What leaves X and Z on every qubit leaves every Pauli.
use Rattle.std.proofs.Common.{◌≡◌, ℕ, zero, suc, ◌+◌, ◌*◌, ◌%◌, ◌^◌, ◌<◌, ◌≤◌, Bool, true, false, ◌&&◌, T as Holds, eqb, eqb→eq, ltb, ltb→lt, refl, subst, arith, lit<}
use Rattle.tc_circuit.specs.Model.{ScaledMatrix}
use Rattle.ring_laws.proofs.Sizes.{sizes}
use Rattle.pauli_basis.specs.Letters.{letter_of}
use Rattle.pauli_basis.specs.Products.{Signed, product_code, turns, sign_turns}
use Rattle.pauli_basis.proofs.Letters.{letter_of-lt}
use Rattle.pauli_basis.proofs.Small.{all, all_at, and_left, and_right}
use Rattle.channel_rep.specs.Gates.{positive}
use Rattle.clifford_rest.proofs.Multiplies.{Multiplies}
use Rattle.clifford_rest.proofs.Undone.{TakesPaulis, products}

-- a code is the product of its letters
abbrev piece : ℕ → ℕ → ℕ
piece p q = letter_of q p * 4 ^ q

-- the product of the letters below q
abbrev pieced : ℕ → ℕ → ℕ
pieced p zero = 0
pieced p (suc q) = product_code (pieced p q) (piece p q)

-- the letters and their products are codes of n qubits, and X times Z is Y
abbrev pieces_fit : ℕ → ℕ → ℕ → Bool
pieces_fit n p q = ltb (pieced p q) (4 ^ n) && (ltb (piece p q) (4 ^ n) && (ltb (3 * 4 ^ q) (4 ^ n) && eqb (product_code (4 ^ q) (3 * 4 ^ q)) (2 * 4 ^ q)))

-- all letters together are the code
abbrev is_pieced : ℕ → ℕ → Bool
is_pieced n p = eqb (pieced p n) p && all n (pieces_fit n p)

-- on one qubit
pieced_1 : Holds (all (4 ^ 1) (is_pieced 1))
pieced_1 = tt

-- on two qubits
pieced_2 : Holds (all (4 ^ 2) (is_pieced 2))
pieced_2 = tt

-- on three qubits
pieced_3 : Holds (all (4 ^ 3) (is_pieced 3))
pieced_3 = tt

-- a sign that turns nothing
no_sign : (b : Bool) (k : ℕ) → (k + sign_turns b) % 4 ≡ k % 4 → b ≡ false
no_sign true k e = absurd (omega arith)
no_sign false k e = refl

module _ (n : ℕ) (some : 0 < n) (few : n ≤ 3) (m : ScaledMatrix) (made : ℕ → Signed) (h : TakesPaulis n m made)
    (x : (j : ℕ) → j < n → made (4 ^ j) ≡ positive (4 ^ j)) (z : (j : ℕ) → j < n → made (3 * 4 ^ j) ≡ positive (3 * 4 ^ j)) where
  -- so do products of Paulis that it leaves
  product_stays : (p q : ℕ) → p < 4 ^ n → q < 4 ^ n → made p ≡ positive p → made q ≡ positive q → made (product_code p q) ≡ positive (product_code p q)
  product_stays p q lp lq ep eq =
      λ i. record { code = code i; is_negative = no_sign (made (product_code p q)).is_negative (turns n p q) same_turns i }
    where
      g : Multiplies n p q (positive p) (positive q) (made (product_code p q))
      g = subst (λ (s : Signed). Multiplies n p q s (positive q) (made (product_code p q))) ep (subst (λ (t : Signed). Multiplies n p q (made p) t (made (product_code p q))) eq (products n m made h p q lp lq))

      code : (made (product_code p q)).code ≡ product_code p q
      code = g.code

      same_turns : (turns n p q + sign_turns (made (product_code p q)).is_negative) % 4 ≡ turns n p q % 4
      same_turns = let e = g.turns_is in omega arith

  -- X on a qubit is a code where Z is
  x_lt : (j : ℕ) → 3 * 4 ^ j < 4 ^ n → 4 ^ j < 4 ^ n
  x_lt j l = omega arith

  -- the identity is X times X
  zero_stays : made 0 ≡ positive 0
  zero_stays = product_stays (4 ^ 0) (4 ^ 0) one_lt one_lt (x 0 some) (x 0 some)
    where
      one_lt : 4 ^ 0 < 4 ^ n
      one_lt = sizes (λ n. 4 ^ 0 < 4 ^ n) (lit< tt) (lit< tt) (lit< tt) n some few

  -- each letter on a qubit
  letter_stays : (q letter : ℕ) → q < n → letter < 4 → 3 * 4 ^ q < 4 ^ n → product_code (4 ^ q) (3 * 4 ^ q) ≡ 2 * 4 ^ q → made (letter * 4 ^ q) ≡ positive (letter * 4 ^ q)
  letter_stays q zero lq l lz e = let f : 0 ≡ 0 * 4 ^ q = omega arith in subst (λ (k : ℕ). made k ≡ positive k) f zero_stays
  letter_stays q (suc zero) lq l lz e = let f : 4 ^ q ≡ 1 * 4 ^ q = omega arith in subst (λ (k : ℕ). made k ≡ positive k) f (x q lq)
  letter_stays q (suc (suc zero)) lq l lz e = subst (λ (k : ℕ). made k ≡ positive k) e (product_stays (4 ^ q) (3 * 4 ^ q) (x_lt q lz) lz (x q lq) (z q lq))
  letter_stays q (suc (suc (suc zero))) lq l lz e = z q lq
  letter_stays q (suc (suc (suc (suc k)))) lq l lz e = absurd (omega arith)

  module _ (p : ℕ) (lp : p < 4 ^ n) where
    -- the test at the code
    test : Holds (is_pieced n p)
    test = all_at (4 ^ n) (is_pieced n) (sizes (λ n. Holds (all (4 ^ n) (is_pieced n))) pieced_1 pieced_2 pieced_3 n some few) p lp

    -- its part on one qubit
    fits : (q : ℕ) → q < n → Holds (pieces_fit n p q)
    fits q l = all_at n (pieces_fit n p) (and_right (eqb (pieced p n) p) _ test) q l

    -- without the first half
    after_first : (q : ℕ) → q < n → Holds (ltb (piece p q) (4 ^ n) && (ltb (3 * 4 ^ q) (4 ^ n) && eqb (product_code (4 ^ q) (3 * 4 ^ q)) (2 * 4 ^ q)))
    after_first q l = and_right (ltb (pieced p q) (4 ^ n)) _ (fits q l)

    -- and without the second
    after_second : (q : ℕ) → q < n → Holds (ltb (3 * 4 ^ q) (4 ^ n) && eqb (product_code (4 ^ q) (3 * 4 ^ q)) (2 * 4 ^ q))
    after_second q l = and_right (ltb (piece p q) (4 ^ n)) _ (after_first q l)

    -- the product of the letters below q
    pieced_stays : (q : ℕ) → q ≤ n → made (pieced p q) ≡ positive (pieced p q)
    pieced_stays zero l = zero_stays
    pieced_stays (suc q) l =
        product_stays (pieced p q) (piece p q) (ltb→lt _ _ (and_left (ltb (pieced p q) (4 ^ n)) _ (fits q l))) (ltb→lt _ _ (and_left (ltb (piece p q) (4 ^ n)) _ (after_first q l)))
        (pieced_stays q (omega arith))
        (letter_stays q (letter_of q p) l (letter_of-lt q p) (ltb→lt _ _ (and_left (ltb (3 * 4 ^ q) (4 ^ n)) _ (after_second q l))) (eqb→eq _ _ (and_right (ltb (3 * 4 ^ q) (4 ^ n)) _ (after_second q l))))

    -- every Pauli stays
    pub all_stay : made p ≡ positive p
    all_stay = subst (λ (k : ℕ). made k ≡ positive k) (eqb→eq (pieced p n) p (and_left (eqb (pieced p n) p) _ test)) (pieced_stays n (omega arith))
