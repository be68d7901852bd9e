-- Lemmas for the crates above: the letters of two codes compared all at once, by masks.
use Rattle.std.proofs.Common.{◌≡◌, ℕ, ◌+◌, ◌*◌, ◌-◌, ◌/◌, ◌%◌, ◌^◌, ◌<◌, ◌≤◌, ◌==◌, bit_and, bit_or, bit_xor, Bool, true, false, T, eqb, eqb→eq, refl, ap, sym, ◌∙◌, subst, arith, lit<}
use Rattle.std.proofs.Math.Nat.{pow-le-pow_right}
use Rattle.std.specs.Prelude.{count_ones}
use lib.Count.{ones}
use Rattle.std.proofs.lemmas.Bool.{eqb-true, eqb-false, eq-eqb, ne_eqb}
use Rattle.pauli_basis.specs.Pauli.{IsPauliCode}
use Rattle.pauli_basis.specs.Products.{turns, clashes, commute, anti_sign}
use Rattle.pauli_basis.proofs.Small.{all, all_at2}
use Rattle.pauli_basis.proofs.Products.{turns-wide, turns-parity}

-- the low bit of each letter at which two codes clash, and of each letter whose turns are three
abbrev clash_mask : ℕ → ℕ → ℕ
clash_mask p q = bit_and (bit_xor (bit_and p (q / 2)) (bit_and (p / 2) q)) 85

-- the low bit of each letter at which the two clash with three turns
abbrev reversed_mask : ℕ → ℕ → ℕ
reversed_mask p q = bit_and (clash_mask p q) (bit_xor (p / 2) (bit_and q (bit_or p (q / 2))))

-- one turn for each clash, and two more where it is reversed, at all pairs of codes
reversed_masks : T (all 64 (λ p. all 64 (λ q. eqb ((count_ones (clash_mask p q) + 2 * count_ones (reversed_mask p q)) % 4) (turns 3 p q % 4))))
unfolding turns ones
reversed_masks = tt

-- a code on up to three qubits fits six bits
pub six_bits : (n p : ℕ) → n ≤ 3 → p < 4 ^ n → p < 64
six_bits n p few h = omega (arith, pow-le-pow_right {n = 4} (lit< tt) few)

-- what the masks count
pub mask_turns : (p q : ℕ) → p < 64 → q < 64 → (count_ones (clash_mask p q) + 2 * count_ones (reversed_mask p q)) % 4 ≡ turns 3 p q % 4
mask_turns p q h g =
    eqb→eq _ _ (all_at2 64 64 (λ p q. eqb ((count_ones (clash_mask p q) + 2 * count_ones (reversed_mask p q)) % 4) (turns 3 p q % 4)) reversed_masks p q h g)

-- the turns on three qubits are those on as many as the codes need
pub turns-three : (n p q : ℕ) → n ≤ 3 → p < 4 ^ n → q < 4 ^ n → turns 3 p q ≡ turns n p q
turns-three n p q few h g = let all_three : 3 ≡ n + (3 - n) = omega arith in ap (λ m. turns m p q) all_three ∙ turns-wide n (3 - n) p q h g

-- the turns that were computed are those of the two codes, and tell whether they commute and the sign of −i·P·Q
pub turned : (n m p q t : ℕ) → IsPauliCode n p → IsPauliCode m q → n ≡ m → t ≡ turns 3 p q % 4 → t ≡ turns n p q % 4
turned n m p q t h g e d = d ∙ ap (λ t. t % 4) (turns-three n p q h.few h.below (subst (λ m. q < 4 ^ m) (sym e) g.below))

-- even turns mean that the two commute
pub commutes_by_turns : (n p q t : ℕ) → t ≡ turns n p q % 4 → (t % 2 == 0) ≡ commute n p q
unfolding commute
commutes_by_turns n p q t d = let parity : t % 2 ≡ clashes n p q % 2 = omega (arith, turns-parity n p q) in ap (λ x. x == 0) parity

-- three turns mean that −i·P·Q is negative
pub negative_by_turns : (n p q t : ℕ) → t ≡ turns n p q % 4 → (t == 3) ≡ anti_sign n p q
unfolding anti_sign
negative_by_turns n p q t d = by (t == 3) refl
  where
    by : (b : Bool) → (t == 3) ≡ b → b ≡ ((turns n p q + 3) % 4 == 2)
    by true e = sym (eq-eqb _ _ (let three = eqb-true t 3 e in omega arith))
    by false e = sym (ne_eqb _ _ (λ g. let other = eqb-false t 3 e in omega arith))
