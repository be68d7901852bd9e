-- Lemmas for the crates above: what the gates make of codes, computed on one to three qubits.
use Rattle.std.proofs.Common.{◌≡◌, ◌≢◌, ℕ, ◌-◌, ◌*◌, ◌/◌, ◌%◌, ◌^◌, ◌<◌, ◌≤◌, ◌==◌, ◌||◌, ◌&&◌, bit_xor, Bool, true, false, T, eqb, eqb→eq, ltb, ltb→lt, ap, sym, ◌∙◌, subst, arith}
use Rattle.std.proofs.lemmas.Bool.{ne_eqb}
use Rattle.std.proofs.lemmas.Nat.{xor_lt, shl_whole}
use mathlib.Core.Bool.{beq}
use Rattle.ring_laws.proofs.Sizes.{sizes}
use Rattle.pauli_basis.specs.Letters.{letter_of}
use Rattle.pauli_basis.specs.Products.{Signed, turns}
use Rattle.pauli_basis.proofs.Letters.{two_bits, letter_of-lt}
use Rattle.pauli_basis.proofs.Small.{all, all_at, all_at2, and_left, and_right}
use Rattle.channel_rep.specs.Gates.{GateFits, image, cx_image, with_letter, on_qubit}
use Rattle.channel_rep.specs.declared.gate.ChannelGate.{ChannelGate}
use Rattle.channel_rep.specs.declared.gate.ChannelGate.TheVariants.{H, S, Sdg, Cx}

-- a letter moved to its qubit, in eight bits
pub letter_shifted : (q letter : ℕ) → q < 3 → letter < 4 → letter * 2 ^ (2 * q) % 256 ≡ letter * 4 ^ q
letter_shifted q letter l h = shl_whole letter 2 (2 * q) 8 h (omega arith) ∙ ap (λ n. letter * n) (two_bits q)

-- a letter changed on its qubit, in eight bits
pub with_letter_shifted : (q code letter : ℕ) → q < 3 → letter < 4 → bit_xor code (bit_xor (letter_of q code) letter * 2 ^ (2 * q) % 256) ≡ with_letter q code letter
with_letter_shifted q code letter l h = ap (bit_xor code) (letter_shifted q _ l (xor_lt 2 (letter_of q code) letter (letter_of-lt q code) h))

-- a letter's image in its place, where the letter, its image and what is made are given by equations
pub on_qubit_is : (change : ℕ → Signed) (q code letter : ℕ) (new made : Signed) → letter ≡ letter_of q code → new ≡ change letter
    → made ≡ record { code = with_letter q code new.code; is_negative = new.is_negative } → made ≡ on_qubit q change code
on_qubit_is change q code letter new made e d m = m ∙ ap (λ (s : Signed). record { code = with_letter q code s.code; is_negative = s.is_negative }) (d ∙ ap change e)

-- a comparison of two tests that holds
pub beq_is : (a b : Bool) → T (beq a b) → a ≡ b
beq_is true true h = λ i. true
beq_is true false h = absurd h
beq_is false true h = absurd h
beq_is false false h = λ i. false

-- ---- cx by bits
abbrev x_part : ℕ → ℕ
x_part letter = bit_xor letter (letter / 2) % 2

-- 1 where the letter has Z
abbrev z_part : ℕ → ℕ
z_part letter = letter / 2

-- the code that cx makes, from the letters of control and target
abbrev pub crossed_code : ℕ → ℕ → ℕ → ℕ → ℕ → ℕ
crossed_code control target code c t = bit_xor code (bit_xor (x_part c * 2 ^ (2 * target) % 256) (3 * z_part t * 2 ^ (2 * control) % 256))

-- 1 where it takes a sign
abbrev pub crossed_sign : ℕ → ℕ → ℕ
crossed_sign c t = x_part c * z_part t * (1 - bit_xor (x_part t) (z_part c))

-- whether both are those of the definition
abbrev crosses : ℕ → ℕ → ℕ → ℕ → Bool
crosses n control target code =
    eqb (crossed_code control target code (letter_of control code) (letter_of target code)) (cx_image n control target code).code
    && beq (crossed_sign (letter_of control code) (letter_of target code) == 1) (cx_image n control target code).is_negative

-- the same for all codes and both qubits
abbrev all_cross : ℕ → Bool
all_cross n = all n (λ control. all n (λ target. eqb control target || all (4 ^ n) (crosses n control target)))

-- on one qubit
cross_1 : T (all_cross 1)
unfolding turns
cross_1 = tt

-- on two
cross_2 : T (all_cross 2)
unfolding turns
cross_2 = tt

-- on three
cross_3 : T (all_cross 3)
unfolding turns
cross_3 = tt

-- the second test, where the first is of two numbers that differ
pub apart : (a b : ℕ) (other : Bool) → a ≢ b → T (eqb a b || other) → T other
apart a b other d h = subst (λ (x : Bool). T (x || other)) (ne_eqb a b d) h

-- cx by bits is cx by products
crossed : (n control target code : ℕ) → n ≤ 3 → control < n → target < n → control ≢ target → code < 4 ^ n → T (crosses n control target code)
crossed n control target code few c t d l =
    all_at (4 ^ n) (crosses n control target)
    (apart control target _ d (all_at2 n n (λ control target. eqb control target || all (4 ^ n) (crosses n control target)) (sizes (λ n. T (all_cross n)) cross_1 cross_2 cross_3 n (omega arith) few) control target c t))
    code l

-- what the two letters make of a code
abbrev crossed_image : ℕ → ℕ → ℕ → ℕ → ℕ → Signed
crossed_image control target code c t = record { code = crossed_code control target code c t; is_negative = crossed_sign c t == 1 }

-- the two letters are given by equations
pub crossed_is : (n control target code c t : ℕ) → n ≤ 3 → control < n → target < n → control ≢ target → code < 4 ^ n → c ≡ letter_of control code → t ≡ letter_of target code
    → crossed_image control target code c t ≡ cx_image n control target code
crossed_is n control target code c t few lc lt d l ec et =
    let both = crossed n control target code few lc lt d l in
    let same : crossed_code control target code c t ≡ (cx_image n control target code).code =
    (λ i. crossed_code control target code (ec i) (et i)) ∙ eqb→eq _ _ (and_left _ _ both) in
    let sign : (crossed_sign c t == 1) ≡ (cx_image n control target code).is_negative =
    (λ i. crossed_sign (ec i) (et i) == 1)
    ∙ beq_is _ _ (and_right (eqb (crossed_code control target code (letter_of control code) (letter_of target code)) (cx_image n control target code).code) _ both) in
    λ i. record { code = same i; is_negative = sign i }

-- a gate of n qubits is one of three
pub fits_three : (n : ℕ) → n ≤ 3 → (g : ChannelGate) → GateFits n g → GateFits 3 g
fits_three n few (H q) fits = omega (arith, fits)
fits_three n few (S q) fits = omega (arith, fits)
fits_three n few (Sdg q) fits = omega (arith, fits)
fits_three n few (Cx control target) fits = (omega (arith, fits.0), omega (arith, fits.1), fits.2)

-- ---- every gate moves the codes in pairs
abbrev all_gates : ℕ → (ChannelGate → Bool) → Bool
all_gates n f =
    all n (λ q. f (H q) && (f (S q) && f (Sdg q))) && all n (λ control. all n (λ target. eqb control target || f (Cx control target)))

-- a test of all gates, at one
at_gate : (n : ℕ) (f : ChannelGate → Bool) → T (all_gates n f) → (g : ChannelGate) → GateFits n g → T (f g)
at_gate n f h (H q) fits = and_left (f (H q)) _ (all_at n (λ q. f (H q) && (f (S q) && f (Sdg q))) (and_left _ _ h) q fits)
at_gate n f h (S q) fits = and_left (f (S q)) _ (and_right (f (H q)) _ (all_at n (λ q. f (H q) && (f (S q) && f (Sdg q))) (and_left _ _ h) q fits))
at_gate n f h (Sdg q) fits = and_right (f (S q)) _ (and_right (f (H q)) _ (all_at n (λ q. f (H q) && (f (S q) && f (Sdg q))) (and_left _ _ h) q fits))
at_gate n f h (Cx control target) fits =
    apart control target _ fits.2 (all_at2 n n (λ control target. eqb control target || f (Cx control target)) (and_right (all n (λ q. f (H q) && (f (S q) && f (Sdg q)))) _ h) control target fits.0 fits.1)

-- whether a code goes to a code, and comes back
abbrev pairs : ℕ → ChannelGate → ℕ → Bool
pairs n g code = ltb (image n g code).code (4 ^ n) && eqb (image n g (image n g code).code).code code

-- the same for all gates and codes
abbrev all_pairs : ℕ → Bool
all_pairs n = all_gates n (λ g. all (4 ^ n) (pairs n g))

-- on one qubit
pairs_1 : T (all_pairs 1)
unfolding image turns
pairs_1 = tt

-- on two
pairs_2 : T (all_pairs 2)
unfolding image turns
pairs_2 = tt

-- on three
pairs_3 : T (all_pairs 3)
unfolding image turns
pairs_3 = tt

-- at one gate and code
paired : (n : ℕ) → 0 < n → n ≤ 3 → (g : ChannelGate) → GateFits n g → (code : ℕ) → code < 4 ^ n → T (pairs n g code)
paired n some few g fits code l =
    all_at (4 ^ n) (pairs n g) (at_gate n (λ g. all (4 ^ n) (pairs n g)) (sizes (λ n. T (all_pairs n)) pairs_1 pairs_2 pairs_3 n some few) g fits) code l

-- the image is a code of as many qubits
pub image-lt : (n : ℕ) → 0 < n → n ≤ 3 → (g : ChannelGate) → GateFits n g → (code : ℕ) → code < 4 ^ n → (image n g code).code < 4 ^ n
image-lt n some few g fits code l = ltb→lt _ _ (and_left _ _ (paired n some few g fits code l))

-- the image's image is the code itself, up to sign
pub image-image : (n : ℕ) → 0 < n → n ≤ 3 → (g : ChannelGate) → GateFits n g → (code : ℕ) → code < 4 ^ n → (image n g (image n g code).code).code ≡ code
image-image n some few g fits code l = eqb→eq _ _ (and_right (ltb (image n g code).code (4 ^ n)) _ (paired n some few g fits code l))

-- the same of an image that is given by an equation
pub image_below : (n : ℕ) → 0 < n → n ≤ 3 → (g : ChannelGate) → GateFits n g → (code partner : ℕ) → code < 4 ^ n → partner ≡ (image n g code).code → partner < 4 ^ n
image_below n some few g fits code partner l e = subst (λ x. x < 4 ^ n) (sym e) (image-lt n some few g fits code l)
