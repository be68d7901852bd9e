-- The Pauli matrices are orthogonal under the trace, and so linearly independent.
use Rattle.std.proofs.Common.{◌≡◌, ◌≢◌, ℕ, zero, suc, ◌+◌, ◌*◌, ◌/◌, ◌%◌, ◌^◌, ◌<◌, ◌==◌, Bool, T as Holds, refl, ap, sym, ◌∙◌, arith, pow-suc, inl, inr}
use Rattle.std.specs.Prelude.{pos, if◌then◌else◌}
use Rattle.std.specs.Int.Bits.{xor_zero_r}
use Rattle.std.proofs.lemmas.Bool.{cases_eq, cond-false, ne_eqb}
use lib.Arith.{digits_div, digits_mod}
use Rattle.ring_laws.specs.Ring.{power}
use Rattle.ring_laws.specs.Matrix.{sum, product, identity, kronecker}
use Rattle.ring_laws.specs.Cyclotomic.{Zω, cyclotomics, integer, plus, times, negative, ω, root2, zero_number, one_number}
use Rattle.ring_laws.proofs.Ring.{power-zero}
use Rattle.ring_laws.proofs.Sums.{sum_cong, sum-zero, mul-sum, sum_swap, sum_single, sum-times, sum_by_sum}
use Rattle.tc_bridge.proofs.Matrices.{Alike, nothing, combination, combination-product, product-right, nothing-product, ◌⊙◌, alike-sym}
use Rattle.ring_laws.proofs.Cyclotomic.{cyclotomics_laws as laws, times-zero, zero-times, times_comm, cancel_root2}
use Rattle.tc_circuit.specs.Gate.{Table}
use Rattle.pauli_basis.specs.Products.{product_code, turns}
use Rattle.pauli_basis.proofs.Small.{all, all_at}
use Rattle.pauli_basis.proofs.Letters.{low-lt}
use Rattle.pauli_basis.proofs.Products.{product_code-lt, product_code-back}
use Rattle.tc_bridge.specs.Pauli.{imaginary, letter_matrix, pauli_matrix}
use Rattle.tc_bridge.proofs.Decide.{same_number, number_equal}
use Rattle.tc_bridge.proofs.Powers.{root2-double}
use Rattle.tc_bridge.proofs.Paulis.{pauli_product, pauli_square, pauli_identity}

-- the sum of a diagonal
abbrev pub trace : ℕ → Table → Zω
trace n a = sum cyclotomics n (λ k. a k k)

-- ---- the trace of a Pauli
abbrev traced : ℕ → Bool
traced l = same_number (trace 2 (letter_matrix l)) (if l == 0 then integer (pos 2) else zero_number)

-- computed for the four letters
traces_computed : Holds (all 4 traced)
unfolding sum integer plus times negative power ω imaginary identity letter_matrix
traces_computed = tt

-- 2 for I, and else 0
letter_trace : (l : ℕ) → l < 4 → trace 2 (letter_matrix l) ≡ (if l == 0 then integer (pos 2) else zero_number)
letter_trace l h = number_equal _ _ (all_at 4 traced traces_computed l h)

-- the trace of a Pauli is the product of its letters' traces
pauli_trace-suc : (n p : ℕ) → trace (2 ^ suc n) (pauli_matrix (suc n) p) ≡ times (trace (2 ^ n) (pauli_matrix n (p / 4))) (trace 2 (letter_matrix (p % 4)))
unfolding pauli_matrix kronecker
pauli_trace-suc n p =
    let a = pauli_matrix n (p / 4) in let b = letter_matrix (p % 4) in
    ap (λ m. sum cyclotomics m (λ k. times (a (k / 2) (k / 2)) (b (k % 2) (k % 2)))) (pow-suc 2 n)
    ∙ sum-times laws (2 ^ n) 2 (λ k. times (a (k / 2) (k / 2)) (b (k % 2) (k % 2)))
    ∙ sum_cong laws (2 ^ n) _ _ (λ r lr. sum_cong laws 2 _ _ (λ t lt i. times (a (digits_div r lt i) (digits_div r lt i)) (b (digits_mod r lt i) (digits_mod r lt i))))
    ∙ sum_by_sum laws (2 ^ n) 2 (λ r. a r r) (λ t. b t t)

-- 1 on no qubit
no_qubits : trace (2 ^ 0) (pauli_matrix 0 0) ≡ one_number
unfolding sum pauli_matrix integer plus
no_qubits = refl

-- 2^n for the identity
pub identity_trace : (n : ℕ) → trace (2 ^ n) (pauli_matrix n 0) ≡ power cyclotomics root2 (n + n)
identity_trace zero = no_qubits ∙ sym (power-zero laws root2)
identity_trace (suc n) =
    pauli_trace-suc n 0 ∙ (λ i. times (identity_trace n i) (letter_trace 0 (omega arith) i)) ∙ times_comm _ _ ∙ sym (root2-double n)

-- 0 for every other
pub pauli_trace : (n p : ℕ) → p < 4 ^ n → p ≢ 0 → trace (2 ^ n) (pauli_matrix n p) ≡ zero_number
pauli_trace zero p l d = absurd (d (omega arith))
pauli_trace (suc n) p l d =
    pauli_trace-suc n p ∙ elim (cases_eq (p % 4) 0) [
      | inl e ↦ ap (λ x. times x (trace 2 (letter_matrix (p % 4)))) (pauli_trace n (p / 4) (let h : 4 ^ suc n ≡ 4 ^ n * 4 = pow-suc 4 n in omega arith) (λ z. d (omega arith))) ∙ zero-times _
      | inr e ↦ ap (times (trace (2 ^ n) (pauli_matrix n (p / 4)))) (letter_trace (p % 4) (low-lt p) ∙ cond-false (p % 4 == 0) _ _ (ne_eqb _ _ e)) ∙ times-zero _
    ]

-- ---- the trace of a product
product_code-zero : (p q : ℕ) → product_code p q ≡ 0 → p ≡ q
product_code-zero p q e = sym (ap (product_code p) e ∙ xor_zero_r p) ∙ product_code-back p q

-- the trace of a product of two Paulis is that of their code's Pauli, turned
product_trace : (n p q : ℕ) → trace (2 ^ n) (product cyclotomics (2 ^ n) (pauli_matrix n p) (pauli_matrix n q)) ≡ times (power cyclotomics imaginary (turns n p q)) (trace (2 ^ n) (pauli_matrix n (product_code p q)))
product_trace n p q = sum_cong laws (2 ^ n) _ _ (λ k l. pauli_product n p q k k) ∙ sym (mul-sum laws (2 ^ n) _ _)

-- 0 for two that differ
pub orthogonal : (n p q : ℕ) → p < 4 ^ n → q < 4 ^ n → p ≢ q → trace (2 ^ n) (product cyclotomics (2 ^ n) (pauli_matrix n p) (pauli_matrix n q)) ≡ zero_number
orthogonal n p q lp lq d =
    product_trace n p q ∙ ap (times (power cyclotomics imaginary (turns n p q))) (pauli_trace n (product_code p q) (product_code-lt n p q lp lq) (λ e. d (product_code-zero p q e))) ∙ times-zero _

-- 2^n for a square
pub square_trace : (n p : ℕ) → trace (2 ^ n) (product cyclotomics (2 ^ n) (pauli_matrix n p) (pauli_matrix n p)) ≡ power cyclotomics root2 (n + n)
square_trace n p = sum_cong laws (2 ^ n) _ _ (λ k l. (pauli_square n p ⊙ alike-sym (pauli_identity n)).at k k l l) ∙ identity_trace n

-- ---- linear independence
-- a combination of Paulis that is 0 has no weight but 0
pub independent : (n : ℕ) (d : ℕ → Zω) → Alike cyclotomics (2 ^ n) (combination cyclotomics (4 ^ n) d (pauli_matrix n)) (nothing cyclotomics) → (q : ℕ) → q < 4 ^ n → d q ≡ zero_number
unfolding combination
independent n d h q l =
    let against = λ (p : ℕ). product cyclotomics (2 ^ n) (pauli_matrix n p) (pauli_matrix n q) in
    cancel_root2 (n + n) _ _ (times_comm (power cyclotomics root2 (n + n)) (d q) ∙ ap (times (d q)) (sym (square_trace n q))
    ∙ sym (sum_single laws (4 ^ n) q (λ p. times (d p) (trace (2 ^ n) (against p))) l (λ p lp e. ap (times (d p)) (orthogonal n p q lp l e) ∙ times-zero (d p)))
    ∙ sum_cong laws (4 ^ n) _ _ (λ p lp. mul-sum laws (2 ^ n) (d p) (λ k. against p k k))
    ∙ sum_swap laws (4 ^ n) (2 ^ n) (λ p k. times (d p) (against p k k))
    ∙ sum-zero laws (2 ^ n) _ (λ k lk. (alike-sym (combination-product laws (4 ^ n) d (pauli_matrix n) (pauli_matrix n q)) ⊙ product-right laws h (pauli_matrix n q) ⊙ nothing-product laws (pauli_matrix n q)).at k k lk lk)
    ∙ sym (times-zero _))
