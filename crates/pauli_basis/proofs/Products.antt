-- Lemmas for the crates above: laws of products of Paulis, on any number of qubits.
use Rattle.std.proofs.Common.{◌≡◌, ◌≢◌, ◌↔◌, ℕ, zero, suc, ◌+◌, ◌*◌, ◌/◌, ◌%◌, ◌^◌, ◌<◌, ◌==◌, Bool, true, false, not, bit_xor, refl, ap, sym, ◌∙◌, subst, arith, pow-suc, zero-add, suc-add}
use Rattle.std.specs.Int.Bits.{xor_self, xor_assoc, xor_zero_l, xor_zero_r}
use Rattle.std.proofs.lemmas.Bool.{eqb-true, eqb-false, eq-eqb, ne_eqb}
use Rattle.std.proofs.lemmas.Nat.{xor_shr, xor_mod, xor_lt, div_below}
use Rattle.pauli_basis.specs.Letters.{letter_turns, letter_clash}
use Rattle.pauli_basis.specs.Products.{product_code, turns, clashes, commute, anti_sign, sign_turns}
use Rattle.pauli_basis.proofs.Letters.{low-lt, two_bits, letter_turns-parity, letter_turns-swap, letter_clash-swap, letter_turns-back, letter_clash-back, letter_turns-self, letter_turns-assoc}

-- ---- codes
pub product_code-lt : (n p q : ℕ) → p < 4 ^ n → q < 4 ^ n → product_code p q < 4 ^ n
product_code-lt n p q h g =
    let P : ℕ → Type 0 = λ m. product_code p q < m in
    subst P (two_bits n) (xor_lt (2 * n) p q (subst (λ m. p < m) (sym (two_bits n)) h) (subst (λ m. q < m) (sym (two_bits n)) g))

-- P·(P·Q) is Q
pub product_code-back : (p q : ℕ) → product_code p (product_code p q) ≡ q
product_code-back p q = sym (xor_assoc p p q) ∙ ap (λ x. bit_xor x q) (xor_self p) ∙ xor_zero_l q

-- where P is not the identity, P·Q is not Q
pub product_code-apart : (p q : ℕ) → p ≢ 0 → product_code p q ≢ q
product_code-apart p q d e = d (sym (xor_zero_r p) ∙ ap (bit_xor p) (sym (xor_self q)) ∙ sym (xor_assoc p q q) ∙ ap (λ x. bit_xor x q) e ∙ xor_self q)

-- ---- turns and clashes
pub turns-parity : (n p q : ℕ) → turns n p q % 2 ≡ clashes n p q % 2
unfolding turns clashes
turns-parity zero p q = refl
turns-parity (suc n) p q = omega (arith, turns-parity n (p / 4) (q / 4), letter_turns-parity (p % 4) (q % 4) (low-lt p) (low-lt q))

-- the two orders of a product have opposite turns
pub turns-swap : (n p q : ℕ) → (turns n p q + turns n q p) % 4 ≡ 0
unfolding turns
turns-swap zero p q = refl
turns-swap (suc n) p q = omega (arith, turns-swap n (p / 4) (q / 4), letter_turns-swap (p % 4) (q % 4) (low-lt p) (low-lt q))

-- clashes are counted both ways round
pub clashes-swap : (n p q : ℕ) → clashes n p q ≡ clashes n q p
unfolding clashes
clashes-swap zero p q = refl
clashes-swap (suc n) p q = omega (arith, clashes-swap n (p / 4) (q / 4), letter_clash-swap (p % 4) (q % 4) (low-lt p) (low-lt q))

-- P·(P·Q) has the turns that take back those of P·Q
pub turns-back : (n p q : ℕ) → (turns n p (product_code p q) + turns n p q) % 4 ≡ 0
unfolding turns
turns-back zero p q = refl
turns-back (suc n) p q =
    omega (arith, ap (turns n (p / 4)) (xor_shr p q 2), ap (letter_turns (p % 4)) (xor_mod p q 2), turns-back n (p / 4) (q / 4), letter_turns-back (p % 4) (q % 4) (low-lt p) (low-lt q))

-- P clashes with P·Q on as many qubits as with Q
pub clashes-back : (n p q : ℕ) → clashes n p (product_code p q) ≡ clashes n p q
unfolding clashes
clashes-back zero p q = refl
clashes-back (suc n) p q =
    omega (arith, ap (clashes n (p / 4)) (xor_shr p q 2), ap (letter_clash (p % 4)) (xor_mod p q 2), clashes-back n (p / 4) (q / 4), letter_clash-back (p % 4) (q % 4) (low-lt p) (low-lt q))

-- P·P has no turn
pub turns-self : (n p : ℕ) → turns n p p ≡ 0
unfolding turns
turns-self zero p = refl
turns-self (suc n) p = omega (arith, turns-self n (p / 4), letter_turns-self (p % 4) (low-lt p))

-- both ways to multiply three operators have the same turns
pub turns-assoc : (n p q r : ℕ) → (turns n p q + turns n (product_code p q) r) % 4 ≡ (turns n q r + turns n p (product_code q r)) % 4
unfolding turns
turns-assoc zero p q r = refl
turns-assoc (suc n) p q r =
    omega (
      arith,
      ap (λ x. turns n x (r / 4)) (xor_shr p q 2),
      ap (λ x. letter_turns x (r % 4)) (xor_mod p q 2),
      ap (turns n (p / 4)) (xor_shr q r 2),
      ap (letter_turns (p % 4)) (xor_mod q r 2),
      turns-assoc n (p / 4) (q / 4) (r / 4),
      letter_turns-assoc (p % 4) (q % 4) (r % 4) (low-lt p) (low-lt q) (low-lt r),
    )

-- ---- commuting
pub even_from_commute : (n p q : ℕ) → commute n p q ≡ true → turns n p q % 2 ≡ 0
unfolding commute
even_from_commute n p q e = turns-parity n p q ∙ eqb-true _ _ e

-- two that anticommute have odd turns
pub odd_from_commute : (n p q : ℕ) → commute n p q ≡ false → turns n p q % 2 ≡ 1
unfolding commute
odd_from_commute n p q e = let d = eqb-false (clashes n p q % 2) 0 e in omega (arith, turns-parity n p q)

-- two with even turns commute
pub commute_from_even : (n p q : ℕ) → turns n p q % 2 ≡ 0 → commute n p q ≡ true
unfolding commute
commute_from_even n p q e = eq-eqb _ _ (sym (turns-parity n p q) ∙ e)

-- two Paulis commute exactly where both orders have the same turns
pub commute_both_orders : (n p q : ℕ) → (commute n p q ≡ true) ↔ (turns n p q % 4 ≡ turns n q p % 4)
commute_both_orders n p q =
    (λ e. omega (arith, even_from_commute n p q e, turns-swap n p q), λ e. commute_from_even n p q (omega (arith, turns-swap n p q)))

-- commuting goes both ways
pub commute-swap : (n p q : ℕ) → commute n p q ≡ commute n q p
unfolding commute
commute-swap n p q = ap (λ x. x % 2 == 0) (clashes-swap n p q)

-- P commutes with P·Q where it commutes with Q
pub commute-back : (n p q : ℕ) → commute n p (product_code p q) ≡ commute n p q
unfolding commute
commute-back n p q = ap (λ x. x % 2 == 0) (clashes-back n p q)

-- ---- −i·P·Q
-- the turns of −i·P·Q are those of its sign
pub anti_sign-turns : (n p q : ℕ) → commute n p q ≡ false → (turns n p q + 3) % 4 ≡ sign_turns (anti_sign n p q)
unfolding anti_sign
anti_sign-turns n p q e = by ((turns n p q + 3) % 4 == 2) refl
  where
    by : (b : Bool) → ((turns n p q + 3) % 4 == 2) ≡ b → (turns n p q + 3) % 4 ≡ sign_turns b
    by true t = eqb-true _ _ t
    by false t = let d = eqb-false ((turns n p q + 3) % 4) 2 t in omega (arith, odd_from_commute n p q e)

-- taken twice, it gives −Q: with −i·P·Q = σ·S, −i·P·S = −σ·Q
pub anti_sign-back : (n p q : ℕ) → commute n p q ≡ false → anti_sign n p (product_code p q) ≡ not (anti_sign n p q)
unfolding anti_sign
anti_sign-back n p q e = by ((turns n p q + 3) % 4 == 2) refl
  where
    by : (b : Bool) → ((turns n p q + 3) % 4 == 2) ≡ b → ((turns n p (product_code p q) + 3) % 4 == 2) ≡ not b
    by true t = ne_eqb _ _ (λ g. omega (arith, eqb-true _ _ t, turns-back n p q))
    by false t = let d = eqb-false ((turns n p q + 3) % 4) 2 t in eq-eqb _ _ (omega (arith, odd_from_commute n p q e, turns-back n p q))

-- ---- more qubits than the codes need
pub turns-wide : (n k p q : ℕ) → p < 4 ^ n → q < 4 ^ n → turns (n + k) p q ≡ turns n p q
unfolding turns
turns-wide zero k p q h g = ap (λ m. turns m p q) (zero-add k) ∙ (λ i. turns k (p_is i) (q_is i)) ∙ nothing k
  where
    p_is : p ≡ 0
    p_is = omega arith

    q_is : q ≡ 0
    q_is = omega arith

    nothing : (k : ℕ) → turns k 0 0 ≡ 0
    nothing zero = refl
    nothing (suc k) = ap (λ x. x + 0) (nothing k)
turns-wide (suc n) k p q h g =
    ap (λ m. turns m p q) (suc-add n k)
    ∙ ap (λ x. x + letter_turns (p % 4) (q % 4)) (turns-wide n k (p / 4) (q / 4) (div_below p 4 (4 ^ n) lit0 (subst (λ m. p < m) (pow-suc 4 n) h)) (div_below q 4 (4 ^ n) lit0 (subst (λ m. q < m) (pow-suc 4 n) g)))
  where
    lit0 : 0 < 4
    lit0 = omega arith
