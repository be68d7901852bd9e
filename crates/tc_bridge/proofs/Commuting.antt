-- Which Pauli matrices commute, and −i·P·Q where they do not.
use Rattle.std.proofs.Common.{◌≡◌, ℕ, ◌+◌, ◌%◌, ◌^◌, Bool, true, false, not, refl, ap, sym, ◌∙◌, arith}
use Rattle.std.proofs.lemmas.Nat.{xor_comm}
use Rattle.ring_laws.specs.Ring.{power}
use Rattle.ring_laws.specs.Matrix.{product}
use Rattle.ring_laws.specs.Cyclotomic.{cyclotomics, integer, times, negative, ω}
use Rattle.ring_laws.proofs.Ring.{power-add}
use Rattle.ring_laws.proofs.Cyclotomic.{cyclotomics_laws as laws, times_assoc}
use Rattle.pauli_basis.specs.Products.{product_code, turns, commute, anti_sign, sign_turns}
use Rattle.pauli_basis.proofs.Products.{turns-swap, even_from_commute, odd_from_commute, anti_sign-turns}
use Rattle.tc_bridge.specs.Pauli.{imaginary, pauli_matrix, sign}
use Rattle.tc_bridge.proofs.Powers.{imaginary-mod, imaginary-sign}
use Rattle.tc_bridge.proofs.Paulis.{pauli_product}

-- the turns of the two orders differ by the sign
turns_apart : (n p q : ℕ) → turns n p q % 4 ≡ (sign_turns (not (commute n p q)) + turns n q p) % 4
turns_apart n p q = by (commute n p q) refl
  where
    by : (b : Bool) → commute n p q ≡ b → turns n p q % 4 ≡ (sign_turns (not b) + turns n q p) % 4
    by true e = omega (arith, turns-swap n p q, even_from_commute n p q e)
    by false e = omega (arith, turns-swap n p q, odd_from_commute n p q e)

-- P·Q is Q·P where they commute, and else −Q·P
pub pauli_swap : (n p q r c : ℕ)
    → product cyclotomics (2 ^ n) (pauli_matrix n p) (pauli_matrix n q) r c
    ≡ times (sign (not (commute n p q))) (product cyclotomics (2 ^ n) (pauli_matrix n q) (pauli_matrix n p) r c)
pauli_swap n p q r c =
    let t = sign_turns (not (commute n p q)) in
    pauli_product n p q r c
    ∙ (λ i. times ((imaginary-mod (turns n p q) (t + turns n q p) (turns_apart n p q) ∙ power-add laws imaginary t (turns n q p)) i) (pauli_matrix n (xor_comm p q i) r c))
    ∙ times_assoc (power cyclotomics imaginary t) (power cyclotomics imaginary (turns n q p)) (pauli_matrix n (product_code q p) r c)
    ∙ (λ i. times (imaginary-sign (not (commute n p q)) i) (sym (pauli_product n q p r c) i))

-- −i is three quarter turns
minus_imaginary : negative imaginary ≡ power cyclotomics imaginary 3
unfolding power integer times negative ω imaginary
minus_imaginary = refl

-- −i·P·Q is σ·S where they do not
pub pauli_anti : (n p q r c : ℕ) → commute n p q ≡ false
    → times (negative imaginary) (product cyclotomics (2 ^ n) (pauli_matrix n p) (pauli_matrix n q) r c)
    ≡ times (sign (anti_sign n p q)) (pauli_matrix n (product_code p q) r c)
pauli_anti n p q r c e =
    (λ i. times (minus_imaginary i) (pauli_product n p q r c i))
    ∙ sym (times_assoc (power cyclotomics imaginary 3) (power cyclotomics imaginary (turns n p q)) (pauli_matrix n (product_code p q) r c))
    ∙ ap (λ x. times x (pauli_matrix n (product_code p q) r c))
    (sym (power-add laws imaginary 3 (turns n p q))
    ∙ imaginary-mod (3 + turns n p q) (sign_turns (anti_sign n p q)) (omega (arith, anti_sign-turns n p q e, sign_small (anti_sign n p q)))
    ∙ imaginary-sign (anti_sign n p q))
  where
    sign_small : (b : Bool) → sign_turns b % 4 ≡ sign_turns b
    sign_small true = refl
    sign_small false = refl
