-- Lemmas for the crates above: products of Pauli matrices are those of their codes.
use Rattle.std.proofs.Common.{◌≡◌, ℕ, zero, suc, ◌/◌, ◌%◌, ◌^◌, ◌<◌, Bool, bit_xor, ◌*◌, refl, ap, sym, ◌∙◌, T, pow-suc, mod-lt, lit<, arith}
use Rattle.std.proofs.lemmas.Nat.{xor_shr, xor_mod}
use Rattle.std.specs.Int.Bits.{xor_self}
use Rattle.ring_laws.specs.Ring.{power}
use Rattle.ring_laws.specs.Matrix.{sum, product, identity, kronecker}
use Rattle.ring_laws.specs.Cyclotomic.{cyclotomics, integer, plus, times, negative, ω, one_number}
use Rattle.ring_laws.proofs.Ring.{mul_mul_comm, power-add, power-zero}
use Rattle.ring_laws.proofs.Sums.{kronecker_product}
use Rattle.tc_bridge.proofs.Identities.{identity_same, kronecker-identity}
use Rattle.tc_bridge.proofs.Matrices.{Alike, alike, ◌⊙◌, multiple}
use Rattle.ring_laws.proofs.Cyclotomic.{cyclotomics_laws as laws, one-times}
use Rattle.pauli_basis.specs.Letters.{letter_turns}
use Rattle.pauli_basis.specs.Products.{product_code, turns}
use Rattle.pauli_basis.proofs.Small.{all, all_at2}
use Rattle.pauli_basis.proofs.Letters.{low-lt}
use Rattle.pauli_basis.proofs.Products.{turns-self}
use Rattle.tc_bridge.specs.Pauli.{imaginary, letter_matrix, pauli_matrix}
use Rattle.tc_bridge.proofs.Decide.{same_number, number_equal}

-- the rule at two letters and two bits
abbrev letters_multiply : ℕ → ℕ → ℕ → ℕ → Bool
letters_multiply l m r c = same_number (product cyclotomics 2 (letter_matrix l) (letter_matrix m) r c) (times (power cyclotomics imaginary (letter_turns l m)) (letter_matrix (bit_xor l m) r c))

-- computed for all of them
letters_computed : T (all 4 (λ l. all 4 (λ m. all 2 (λ r. all 2 (letters_multiply l m r)))))
unfolding product sum identity integer plus times negative power ω imaginary letter_matrix
letters_computed = tt

-- the product of two letters
letters_product : (l m r c : ℕ) → l < 4 → m < 4 → r < 2 → c < 2 → product cyclotomics 2 (letter_matrix l) (letter_matrix m) r c ≡ times (power cyclotomics imaginary (letter_turns l m)) (letter_matrix (bit_xor l m) r c)
letters_product l m r c bl bm br bc =
    number_equal _ _ (all_at2 2 2 (letters_multiply l m) (all_at2 4 4 (λ l m. all 2 (λ r. all 2 (letters_multiply l m r))) letters_computed l m bl bm) r c br bc)

-- on no qubit
no_qubits : (r c : ℕ) → product cyclotomics (2 ^ 0) (pauli_matrix 0 0) (pauli_matrix 0 0) r c ≡ times (power cyclotomics imaginary 0) one_number
unfolding product sum integer plus times power pauli_matrix
no_qubits r c = refl

-- a bit is 0 or 1
pub bit-lt : (k : ℕ) → k % 2 < 2
bit-lt k = mod-lt k {m = 2} (lit< tt)

-- P·Q = i^t·R, at every index
pub pauli_product : (n p q r c : ℕ) → product cyclotomics (2 ^ n) (pauli_matrix n p) (pauli_matrix n q) r c ≡ times (power cyclotomics imaginary (turns n p q)) (pauli_matrix n (product_code p q) r c)
unfolding pauli_matrix turns kronecker
pauli_product zero p q r c = no_qubits r c
pauli_product (suc n) p q r c =
    ap (λ (m : ℕ). product cyclotomics m (pauli_matrix (suc n) p) (pauli_matrix (suc n) q) r c) (pow-suc 2 n)
    ∙ kronecker_product laws (2 ^ n) 2 (pauli_matrix n (p / 4)) (letter_matrix (p % 4)) (pauli_matrix n (q / 4)) (letter_matrix (q % 4)) r c
    ∙ (λ i. times (pauli_product n (p / 4) (q / 4) (r / 2) (c / 2) i) (letters_product (p % 4) (q % 4) (r % 2) (c % 2) (low-lt p) (low-lt q) (bit-lt r) (bit-lt c) i))
    ∙ mul_mul_comm laws (power cyclotomics imaginary (turns n (p / 4) (q / 4))) (pauli_matrix n (bit_xor (p / 4) (q / 4)) (r / 2) (c / 2)) (power cyclotomics imaginary (letter_turns (p % 4) (q % 4))) (letter_matrix (bit_xor (p % 4) (q % 4)) (r % 2) (c % 2))
    ∙ sym (λ i. times (power-add laws imaginary (turns n (p / 4) (q / 4)) (letter_turns (p % 4) (q % 4)) i) (times (pauli_matrix n (xor_shr p q 2 i) (r / 2) (c / 2)) (letter_matrix (xor_mod p q 2 i) (r % 2) (c % 2))))

-- the same of matrices
pub paulis_multiply : (n p q : ℕ) → Alike cyclotomics (2 ^ n) (product cyclotomics (2 ^ n) (pauli_matrix n p) (pauli_matrix n q)) (multiple cyclotomics (power cyclotomics imaginary (turns n p q)) (pauli_matrix n (product_code p q)))
unfolding multiple
paulis_multiply n p q = alike (pauli_product n p q)

-- the code 0 is the identity
letter_identity : (r c : ℕ) → letter_matrix 0 r c ≡ identity cyclotomics r c
unfolding letter_matrix
letter_identity r c = refl

-- the matrix of code 0
pub pauli_identity : (n : ℕ) → Alike cyclotomics (2 ^ n) (pauli_matrix n 0) (identity cyclotomics)
unfolding pauli_matrix kronecker
pauli_identity zero = record { at = λ r c lr lc. sym (identity_same laws r c (omega arith)) }
pauli_identity (suc n) =
    record {
      at = λ r c lr lc.
          let e : 2 ^ suc n ≡ 2 ^ n * 2 = pow-suc 2 n in
          (λ i. times ((pauli_identity n).at (r / 2) (c / 2) (omega arith) (omega arith) i) (letter_identity (r % 2) (c % 2) i)) ∙ kronecker-identity laws 2 r c;
    }

-- P·P is the identity
pub pauli_square : (n p : ℕ) → Alike cyclotomics (2 ^ n) (product cyclotomics (2 ^ n) (pauli_matrix n p) (pauli_matrix n p)) (identity cyclotomics)
pauli_square n p =
    alike (λ r c. pauli_product n p p r c ∙ (λ i. times (power cyclotomics imaginary (turns-self n p i)) (pauli_matrix n (xor_self p i) r c))
    ∙ (λ i. times (power-zero laws imaginary i) (pauli_matrix n 0 r c)) ∙ one-times (pauli_matrix n 0 r c))
    ⊙ pauli_identity n
