-- A number of few digits is small.
use Rattle.std.proofs.Common.{◌≡◌, ℕ, zero, suc, ◌+◌, ◌-◌, ◌*◌, ◌^◌, ◌<◌, ◌≤◌, Bool, true, false, List, [], ◌∷◌, length, take, get_or, arith, ap, ◌∙◌, sym, refl, subst, add-one}
use Rattle.std.specs.Prelude.{nat_le}
use Rattle.std.specs.List.{list_all}
use Rattle.std.proofs.lemmas.Bool.{cases_Bool, and_parts, leb-true, ltb-true}
use Rattle.std.proofs.Math.Nat.{pow-suc, pow-le-pow_right}
use Rattle.qasm_lex.specs.Bytes.{is_digit}

-- each byte is a digit
digit_at : (bs : List ℕ) (i : ℕ) → list_all is_digit bs ≡ true → i < length bs → is_digit (get_or bs i 0) ≡ true
digit_at [] i e h = absurd (omega arith)
digit_at (b ∷ bs) zero e h = (and_parts (is_digit b) _ e).0
digit_at (b ∷ bs) (suc i) e h = digit_at bs i (and_parts (is_digit b) _ e).1 (omega arith)

-- one digit more
pub below_more : (bs : List ℕ) (i n : ℕ) → list_all is_digit bs ≡ true → i < length bs → n < 10 ^ i → n * 10 + (get_or bs i 0 - 48) < 10 ^ (i + 1)
below_more bs i n e h b =
    let d = and_parts (nat_le 48 (get_or bs i 0)) _ (digit_at bs i e h) in
    let small : get_or bs i 0 ≤ 57 = leb-true _ _ d.1 in
    let power : 10 ^ (i + 1) ≡ 10 ^ i * 10 = ap (λ (k : ℕ). 10 ^ k) (add-one i) ∙ pow-suc 10 i in
    omega (arith, small, power, b)

-- few digits make a small number
pub few_digits : (i : ℕ) → i ≤ 9 → 10 ^ i ≤ 1000000000
few_digits i h = pow-le-pow_right {n = 10} (omega arith) {i = i} {j = 9} h
