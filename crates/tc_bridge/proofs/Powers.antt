-- Lemmas for the crates above: powers of ω, i and √2.
use Rattle.std.proofs.Common.{◌≡◌, ℕ, Bool, true, false, zero, suc, ◌+◌, ◌*◌, ◌/◌, ◌%◌, refl, ap, sym, ◌∙◌, arith}
use Rattle.std.specs.Prelude.{pos}
use Rattle.ring_laws.specs.Ring.{power}
use Rattle.ring_laws.specs.Cyclotomic.{cyclotomics, integer, times, negative, ω, root2, one_number}
use Rattle.ring_laws.proofs.Ring.{power-add, power-zero, power-one, power-suc}
use Rattle.ring_laws.proofs.Cyclotomic.{cyclotomics_laws as laws, times-one, root2-root2, cancel_root2, ω-eighth}
use Rattle.tc_bridge.proofs.Matrices.{Alike, multiple}
use Rattle.tc_circuit.specs.Gate.{Table}
use Rattle.pauli_basis.specs.Products.{sign_turns}
use Rattle.channel_rep.specs.Tables.{turned_over}
use Rattle.tc_bridge.specs.Pauli.{imaginary, sign}

-- i^t is ω^2t
pub imaginary-power : (t : ℕ) → power cyclotomics imaginary t ≡ power cyclotomics ω (2 * t)
unfolding power imaginary
imaginary-power zero = refl
imaginary-power (suc t) =
    ap (times (power cyclotomics ω 2)) (imaginary-power t) ∙ sym (power-add laws ω 2 (2 * t)) ∙ ap (power cyclotomics ω) (let e : 2 + 2 * t ≡ 2 * suc t = omega arith in e)

-- whole turns are 1
pub ω-rounds : (k : ℕ) → power cyclotomics ω (k * 8) ≡ one_number
ω-rounds zero = power-zero laws ω
ω-rounds (suc k) =
    ap (power cyclotomics ω) (let e : suc k * 8 ≡ 8 + k * 8 = omega arith in e) ∙ power-add laws ω 8 (k * 8)
    ∙ (λ i. times (ω-eighth i) (ω-rounds k i)) ∙ times-one one_number

-- only the turns beyond whole ones count
pub ω-mod : (t : ℕ) → power cyclotomics ω t ≡ power cyclotomics ω (t % 8)
ω-mod t =
    ap (power cyclotomics ω) (let e : t ≡ (t / 8) * 8 + t % 8 = omega arith in e) ∙ power-add laws ω ((t / 8) * 8) (t % 8)
    ∙ (λ i. times (ω-rounds (t / 8) i) (power cyclotomics ω (t % 8))) ∙ laws.mul_comm one_number (power cyclotomics ω (t % 8)) ∙ times-one (power cyclotomics ω (t % 8))

-- quarter turns count modulo 4
pub imaginary-mod : (s t : ℕ) → s % 4 ≡ t % 4 → power cyclotomics imaginary s ≡ power cyclotomics imaginary t
imaginary-mod s t e =
    let same : (2 * s) % 8 ≡ (2 * t) % 8 = omega arith in
    imaginary-power s ∙ ω-mod (2 * s) ∙ ap (power cyclotomics ω) same ∙ sym (ω-mod (2 * t)) ∙ sym (imaginary-power t)

-- ---- signs
pub imaginary-sign : (b : Bool) → power cyclotomics imaginary (sign_turns b) ≡ sign b
unfolding power integer times negative ω imaginary sign
imaginary-sign true = refl
imaginary-sign false = refl

-- no sign is 1
pub sign-false : sign false ≡ one_number
unfolding sign
sign-false = refl

-- the product of two signs
pub sign-times : (a b : Bool) → times (sign a) (sign b) ≡ sign (turned_over a b)
unfolding integer times negative sign
sign-times true true = refl
sign-times true false = refl
sign-times false true = refl
sign-times false false = refl

-- ---- √2 to an even power
pub root2-double : (k : ℕ) → power cyclotomics root2 (suc k + suc k) ≡ times (integer (pos 2)) (power cyclotomics root2 (k + k))
root2-double k =
    ap (power cyclotomics root2) (let e : suc k + suc k ≡ 2 + (k + k) = omega arith in e) ∙ power-add laws root2 2 (k + k)
    ∙ ap (λ x. times x (power cyclotomics root2 (k + k))) (power-suc laws root2 1 ∙ ap (times root2) (power-one laws root2) ∙ root2-root2)

-- a power of √2 cancels before a matrix
pub cancel_multiple : {n : ℕ} (k : ℕ) (a b : Table) → Alike cyclotomics n (multiple cyclotomics (power cyclotomics root2 k) a) (multiple cyclotomics (power cyclotomics root2 k) b) → Alike cyclotomics n a b
unfolding multiple
cancel_multiple k a b h = record { at = λ r c lr lc. cancel_root2 k (a r c) (b r c) (h.at r c lr lc) }
