-- Lemmas for the crates above: laws of two and three letters, each computed for all of them, and the letters of a code.
use Rattle.std.proofs.Common.{◌≡◌, ℕ, ◌+◌, ◌*◌, ◌/◌, ◌%◌, ◌^◌, ◌-◌, ◌<◌, bit_and, bit_xor, T, eqb, eqb→eq, ap, sym, ◌∙◌, subst, arith, mod-lt, lit<}
use Rattle.std.proofs.lemmas.Nat.{xor_shr, xor_mod, mul-pow, pow-add, pow_pos, and_mask}
use Rattle.pauli_basis.specs.Letters.{letter_of, letter_turns, letter_clash}
use Rattle.pauli_basis.proofs.Small.{all, all_at2, all_at3}

-- the low letter of a code is one of four
pub low-lt : (code : ℕ) → code % 4 < 4
low-lt code = mod-lt code {m = 4} (lit< tt)

-- a letter is one of four
pub letter_of-lt : (q code : ℕ) → letter_of q code < 4
letter_of-lt q code = low-lt (code / 4 ^ q)

-- two bits a letter
pub two_bits : (q : ℕ) → 2 ^ (2 * q) ≡ 4 ^ q
two_bits q = let twice : 2 * q ≡ q + q = omega arith in ap (λ k. 2 ^ k) twice ∙ pow-add 2 q q ∙ sym (mul-pow 2 2 q)

-- the letters of a product are the exclusive or of the letters
pub letter_of-xor : (q a b : ℕ) → letter_of q (bit_xor a b) ≡ bit_xor (letter_of q a) (letter_of q b)
letter_of-xor q a b =
    ap (λ n. bit_xor a b / n % 4) (sym (two_bits q)) ∙ ap (λ n. n % 4) (xor_shr a b (2 * q)) ∙ xor_mod (a / 2 ^ (2 * q)) (b / 2 ^ (2 * q)) 2
    ∙ ap (λ n. bit_xor (a / n % 4) (b / n % 4)) (two_bits q)

-- two functions of letters that agree where computed
letters_agree : (f g : ℕ → ℕ → ℕ) → T (all 4 (λ l. all 4 (λ m. eqb (f l m) (g l m)))) → (l m : ℕ) → l < 4 → m < 4 → f l m ≡ g l m
letters_agree f g h l m bl bm = eqb→eq _ _ (all_at2 4 4 (λ l m. eqb (f l m) (g l m)) h l m bl bm)

-- a clash is an odd number of turns
pub letter_turns-parity : (l m : ℕ) → l < 4 → m < 4 → letter_turns l m % 2 ≡ letter_clash l m
letter_turns-parity = letters_agree (λ l m. letter_turns l m % 2) letter_clash tt

-- two letters the other way round have the opposite turns
pub letter_turns-swap : (l m : ℕ) → l < 4 → m < 4 → (letter_turns l m + letter_turns m l) % 4 ≡ 0
letter_turns-swap = letters_agree (λ l m. (letter_turns l m + letter_turns m l) % 4) (λ l m. 0) tt

-- letters clash both ways round
pub letter_clash-swap : (l m : ℕ) → l < 4 → m < 4 → letter_clash l m ≡ letter_clash m l
letter_clash-swap = letters_agree letter_clash (λ l m. letter_clash m l) tt

-- l·(l·m) is m
pub letter_turns-back : (l m : ℕ) → l < 4 → m < 4 → (letter_turns l (bit_xor l m) + letter_turns l m) % 4 ≡ 0
letter_turns-back = letters_agree (λ l m. (letter_turns l (bit_xor l m) + letter_turns l m) % 4) (λ l m. 0) tt

-- l clashes with l·m where it clashes with m
pub letter_clash-back : (l m : ℕ) → l < 4 → m < 4 → letter_clash l (bit_xor l m) ≡ letter_clash l m
letter_clash-back = letters_agree (λ l m. letter_clash l (bit_xor l m)) letter_clash tt

-- l·l is I
pub letter_turns-self : (l : ℕ) → l < 4 → letter_turns l l ≡ 0
letter_turns-self l b = letters_agree (λ l m. letter_turns l l) (λ l m. 0) tt l l b b

-- (l·m)·o is l·(m·o)
pub letter_turns-assoc : (l m o : ℕ) → l < 4 → m < 4 → o < 4
    → (letter_turns l m + letter_turns (bit_xor l m) o) % 4 ≡ (letter_turns m o + letter_turns l (bit_xor m o)) % 4
letter_turns-assoc l m o bl bm bo =
    eqb→eq _ _ (all_at3 4 4 4 (λ l m o. eqb ((letter_turns l m + letter_turns (bit_xor l m) o) % 4) ((letter_turns m o + letter_turns l (bit_xor m o)) % 4)) tt l m o bl bm bo)

-- there are some codes
pub codes_some : (n : ℕ) → 0 < 4 ^ n
codes_some n = subst (λ m. 0 < m) (two_bits n) (pow_pos (2 * n))

-- the mask of the letters on n qubits
pub masked : (n size code : ℕ) → size ≡ 4 ^ n → bit_and code (size - 1) ≡ code % 4 ^ n
masked n size code e = ap (λ k. bit_and code (k - 1)) (e ∙ sym (two_bits n)) ∙ and_mask code (2 * n) ∙ ap (λ k. code % k) (two_bits n)
