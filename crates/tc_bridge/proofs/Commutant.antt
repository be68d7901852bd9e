-- A matrix that commutes with every Pauli is a number times the identity, by the completeness of the Paulis.
use Rattle.std.proofs.Common.{◌≡◌, ℕ, zero, suc, ◌+◌, ◌*◌, ◌/◌, ◌%◌, ◌^◌, ◌<◌, Bool, T as Holds, [], ◌∷◌, refl, ap, sym, ◌∙◌, arith, lit<, pow-suc}
use Rattle.std.specs.Prelude.{pos}
use Rattle.std.proofs.Math.Nat.{one-le-pow}
use lib.Arith.{digits_div, digits_mod}
use Rattle.ring_laws.specs.Ring.{power}
use Rattle.ring_laws.specs.Matrix.{sum, product, identity, kronecker}
use Rattle.ring_laws.specs.Cyclotomic.{Zω, cyclotomics, integer, plus, times, negative, ω, root2, one_number}
use Rattle.ring_laws.proofs.Ring.{power-zero, power-add, mul_mul_comm, mul_left_comm}
use Rattle.ring_laws.proofs.Reader.{ring, reads}
use Rattle.ring_laws.proofs.Sums.{sum_cong, mul-sum, sum-mul, sum_swap, sum-times, sum_by_sum}
use Rattle.tc_bridge.proofs.Identities.{identity_same, kronecker-identity}
use Rattle.tc_bridge.proofs.Matrices.{Alike, ◌⊙◌, assoc, product-left, product-right, product-one, alike-sym, multiple}
use Rattle.ring_laws.proofs.Cyclotomic.{cyclotomics_laws as laws, times_assoc, times_comm, times-one, one-times, cancel_root2}
use Rattle.tc_circuit.specs.Gate.{Table}
use Rattle.pauli_basis.proofs.Small.{all, all_at2}
use Rattle.tc_bridge.specs.Pauli.{imaginary, letter_matrix, pauli_matrix}
use Rattle.tc_bridge.proofs.Decide.{same_number, number_equal}
use Rattle.tc_bridge.proofs.Powers.{root2-double}
use Rattle.tc_bridge.proofs.Paulis.{bit-lt, pauli_square}

-- ---- completeness
abbrev letters_complete_at : ℕ → ℕ → ℕ → ℕ → Bool
letters_complete_at r a b c =
    same_number (sum cyclotomics 4 (λ l. times (letter_matrix l r a) (letter_matrix l b c))) (times (integer (pos 2)) (times (identity cyclotomics r c) (identity cyclotomics a b)))

-- computed for all bits
letters_computed : Holds (all 2 (λ r. all 2 (λ a. all 2 (λ b. all 2 (letters_complete_at r a b)))))
unfolding sum integer plus times negative power ω imaginary identity letter_matrix
letters_computed = tt

-- the same sum over the four letters
letters_complete : (r a b c : ℕ) → r < 2 → a < 2 → b < 2 → c < 2
    → sum cyclotomics 4 (λ l. times (letter_matrix l r a) (letter_matrix l b c)) ≡ times (integer (pos 2)) (times (identity cyclotomics r c) (identity cyclotomics a b))
letters_complete r a b c lr la lb lc =
    number_equal _ _ (all_at2 2 2 (letters_complete_at r a) (all_at2 2 2 (λ r a. all 2 (λ b. all 2 (letters_complete_at r a b))) letters_computed r a lr la) b c lb lc)

regroup : (x d e d' e' : Zω) → times (times x (times d e)) (times (integer (pos 2)) (times d' e')) ≡ times (times (integer (pos 2)) x) (times (times d d') (times e e'))
regroup x d e d' e' = ring laws (x ∷ d ∷ e ∷ d' ∷ e' ∷ []) (search reads depth 30 parts 0 fits 10000) tt

-- half of an index
half-lt : (n k : ℕ) → k < 2 ^ suc n → k / 2 < 2 ^ n
half-lt n k l = let e : 2 ^ suc n ≡ 2 ^ n * 2 = pow-suc 2 n in omega arith

-- the sum on no qubit has one term
no_qubits : sum cyclotomics (4 ^ 0) (λ p. times (pauli_matrix 0 p 0 0) (pauli_matrix 0 p 0 0)) ≡ one_number
unfolding sum pauli_matrix integer plus times
no_qubits = refl

-- the sum over P of P(r, a)·P(b, c) is 2^n where r is c and a is b, and else 0
pub complete : (n r a b c : ℕ) → r < 2 ^ n → a < 2 ^ n → b < 2 ^ n → c < 2 ^ n
    → sum cyclotomics (4 ^ n) (λ p. times (pauli_matrix n p r a) (pauli_matrix n p b c)) ≡ times (power cyclotomics root2 (n + n)) (times (identity cyclotomics r c) (identity cyclotomics a b))
unfolding pauli_matrix kronecker
complete zero r a b c lr la lb lc =
    no_qubits ∙ sym ((λ i. times (power-zero laws root2 i) (times (identity_same laws r c (omega arith) i) (identity_same laws a b (omega arith) i))) ∙ one-times _ ∙ one-times _)
complete (suc n) r a b c lr la lb lc =
    ap (λ k. sum cyclotomics k (λ p. times (pauli_matrix (suc n) p r a) (pauli_matrix (suc n) p b c))) (pow-suc 4 n)
    ∙ sum-times laws (4 ^ n) 4 (λ p. times (pauli_matrix (suc n) p r a) (pauli_matrix (suc n) p b c))
    ∙ sum_cong laws (4 ^ n) _ _ (λ p lp. sum_cong laws 4 _ _ (λ l ll.
    (λ i. times (times (pauli_matrix n (digits_div p ll i) (r / 2) (a / 2)) (letter_matrix (digits_mod p ll i) (r % 2) (a % 2))) (times (pauli_matrix n (digits_div p ll i) (b / 2) (c / 2)) (letter_matrix (digits_mod p ll i) (b % 2) (c % 2))))
    ∙ mul_mul_comm laws (pauli_matrix n p (r / 2) (a / 2)) (letter_matrix l (r % 2) (a % 2)) (pauli_matrix n p (b / 2) (c / 2)) (letter_matrix l (b % 2) (c % 2))))
    ∙ sum_by_sum laws (4 ^ n) 4 (λ p. times (pauli_matrix n p (r / 2) (a / 2)) (pauli_matrix n p (b / 2) (c / 2))) (λ l. times (letter_matrix l (r % 2) (a % 2)) (letter_matrix l (b % 2) (c % 2)))
    ∙ (λ i. times (complete n (r / 2) (a / 2) (b / 2) (c / 2) (half-lt n r lr) (half-lt n a la) (half-lt n b lb) (half-lt n c lc) i)
    (letters_complete (r % 2) (a % 2) (b % 2) (c % 2) (bit-lt r) (bit-lt a) (bit-lt b) (bit-lt c) i))
    ∙ regroup (power cyclotomics root2 (n + n)) (identity cyclotomics (r / 2) (c / 2)) (identity cyclotomics (a / 2) (b / 2)) (identity cyclotomics (r % 2) (c % 2)) (identity cyclotomics (a % 2) (b % 2))
    ∙ (λ i. times (sym (root2-double n) i) (times (kronecker-identity laws 2 r c i) (kronecker-identity laws 2 a b i)))

-- ---- the sum over P of P·M·P
module _ (n : ℕ) (m : Table) where
  -- the sum over P of P·M·P
  pub twirl : Table
  twirl r c = sum cyclotomics (4 ^ n) (λ p. product cyclotomics (2 ^ n) (product cyclotomics (2 ^ n) (pauli_matrix n p) m) (pauli_matrix n p) r c)

  -- P·M·P as a double sum
  as_sums : (p r c : ℕ) → product cyclotomics (2 ^ n) (product cyclotomics (2 ^ n) (pauli_matrix n p) m) (pauli_matrix n p) r c
      ≡ sum cyclotomics (2 ^ n) (λ b. sum cyclotomics (2 ^ n) (λ a. times (m a b) (times (pauli_matrix n p r a) (pauli_matrix n p b c))))
  unfolding product
  as_sums p r c =
      sum_cong laws (2 ^ n) _ _ (λ b l. sum-mul laws (2 ^ n) (λ a. times (pauli_matrix n p r a) (m a b)) (pauli_matrix n p b c)
      ∙ sum_cong laws (2 ^ n) _ _ (λ a l'. ring laws (pauli_matrix n p r a ∷ m a b ∷ pauli_matrix n p b c ∷ []) (search reads depth 30 parts 0 fits 10000) tt))

  -- 2^n times the trace of M
  weight : Zω
  weight = times (power cyclotomics root2 (n + n)) (sum cyclotomics (2 ^ n) (λ b. sum cyclotomics (2 ^ n) (λ a. times (m a b) (identity cyclotomics a b))))

  -- by completeness it is a number times the identity
  twirl_scalar : (r c : ℕ) → r < 2 ^ n → c < 2 ^ n → twirl r c ≡ times (identity cyclotomics r c) weight
  unfolding twirl weight
  twirl_scalar r c lr lc =
      let scale = times (identity cyclotomics r c) (power cyclotomics root2 (n + n)) in
      sum_cong laws (4 ^ n) _ _ (λ p lp. as_sums p r c)
      ∙ sum_swap laws (4 ^ n) (2 ^ n) (λ p b. sum cyclotomics (2 ^ n) (λ a. times (m a b) (times (pauli_matrix n p r a) (pauli_matrix n p b c))))
      ∙ sum_cong laws (2 ^ n) _ _ (λ b lb. sum_swap laws (4 ^ n) (2 ^ n) (λ p a. times (m a b) (times (pauli_matrix n p r a) (pauli_matrix n p b c)))
      ∙ sum_cong laws (2 ^ n) _ _ (λ a la. sym (mul-sum laws (4 ^ n) (m a b) (λ p. times (pauli_matrix n p r a) (pauli_matrix n p b c))) ∙ ap (times (m a b)) (complete n r a b c lr la lb lc)
      ∙ front (m a b) (power cyclotomics root2 (n + n)) (identity cyclotomics r c) (identity cyclotomics a b))
      ∙ sym (mul-sum laws (2 ^ n) scale (λ a. times (m a b) (identity cyclotomics a b))))
      ∙ sym (mul-sum laws (2 ^ n) scale (λ b. sum cyclotomics (2 ^ n) (λ a. times (m a b) (identity cyclotomics a b))))
      ∙ times_assoc (identity cyclotomics r c) (power cyclotomics root2 (n + n)) (sum cyclotomics (2 ^ n) (λ b. sum cyclotomics (2 ^ n) (λ a. times (m a b) (identity cyclotomics a b))))
    where
      front : (x t d e : Zω) → times x (times t (times d e)) ≡ times (times d t) (times x e)
      front x t d e = ring laws (x ∷ t ∷ d ∷ e ∷ []) (search reads depth 30 parts 0 fits 10000) tt

  -- where M commutes with every Pauli it is 4^n times M
  twirl_same : ((q : ℕ) → q < 4 ^ n → Alike cyclotomics (2 ^ n) (product cyclotomics (2 ^ n) m (pauli_matrix n q)) (product cyclotomics (2 ^ n) (pauli_matrix n q) m))
      → (r c : ℕ) → r < 2 ^ n → c < 2 ^ n → twirl r c ≡ times (sum cyclotomics (4 ^ n) (λ p. one_number)) (m r c)
  unfolding twirl
  twirl_same h r c lr lc =
      sum_cong laws (4 ^ n) _ _ (λ p lp. (product-right laws (alike-sym (h p lp)) (pauli_matrix n p) ⊙ assoc laws m _ _ ⊙ product-left laws m (pauli_square n p) ⊙ product-one laws m).at r c lr lc ∙ sym (one-times (m r c)))
      ∙ sym (sum-mul laws (4 ^ n) (λ p. one_number) (m r c))

-- four ones are 4
four : sum cyclotomics 4 (λ p. one_number) ≡ power cyclotomics root2 4
unfolding sum integer power plus times root2
four = refl

-- the sum of one 1
one : sum cyclotomics (4 ^ 0) (λ p. one_number) ≡ one_number
unfolding sum integer plus
one = refl

-- 4^n ones are √2^4n
ones : (n : ℕ) → sum cyclotomics (4 ^ n) (λ p. one_number) ≡ power cyclotomics root2 (n * 4)
ones zero = one ∙ sym (power-zero laws root2)
ones (suc n) =
    ap (λ k. sum cyclotomics k (λ p. one_number)) (pow-suc 4 n) ∙ sum-times laws (4 ^ n) 4 (λ p. one_number)
    ∙ sum_cong laws (4 ^ n) _ _ (λ p l. four ∙ sym (times-one (power cyclotomics root2 4))) ∙ sym (mul-sum laws (4 ^ n) (power cyclotomics root2 4) (λ p. one_number))
    ∙ ap (times (power cyclotomics root2 4)) (ones n) ∙ sym (power-add laws root2 4 (n * 4)) ∙ ap (power cyclotomics root2) (let e : 4 + n * 4 ≡ suc n * 4 = omega arith in e)

-- a matrix that commutes with every Pauli is its first entry times the identity
pub commutant : (n : ℕ) (m : Table) → ((q : ℕ) → q < 4 ^ n → Alike cyclotomics (2 ^ n) (product cyclotomics (2 ^ n) m (pauli_matrix n q)) (product cyclotomics (2 ^ n) (pauli_matrix n q) m))
    → Alike cyclotomics (2 ^ n) m (multiple cyclotomics (m 0 0) (identity cyclotomics))
unfolding multiple
commutant n m h = record {
  at = λ r c lr lc.
      cancel_root2 (n * 4) _ _ (fours r c lr lc
      ∙ ap (times (identity cyclotomics r c)) (sym (one-times (weight n m)) ∙ ap (λ y. times y (weight n m)) (sym (identity_same laws 0 0 refl)) ∙ sym (fours 0 0 first first))
      ∙ mul_left_comm laws (identity cyclotomics r c) (power cyclotomics root2 (n * 4)) (m 0 0) ∙ ap (times (power cyclotomics root2 (n * 4))) (times_comm (identity cyclotomics r c) (m 0 0)));
}
  where
    first : 0 < 2 ^ n
    first = one-le-pow n 2 (lit< tt)

    fours : (r c : ℕ) → r < 2 ^ n → c < 2 ^ n → times (power cyclotomics root2 (n * 4)) (m r c) ≡ times (identity cyclotomics r c) (weight n m)
    fours r c lr lc = ap (λ y. times y (m r c)) (sym (ones n)) ∙ sym (twirl_same n m h r c lr lc) ∙ twirl_scalar n m r c lr lc
