-- The fold of a label's numbers as a polynomial modulo 2^38.
use Rattle.std.proofs.Common.{◌≡◌, ℕ, zero, suc, ◌+◌, ◌*◌, ◌%◌, ◌^◌, [], ◌∷◌, length, map, refl, ap, sym, ◌∙◌, arith}
use Rattle.std.specs.Prelude.{ℤ, pos, negsuc, neg_ℤ, fold}
use Rattle.std.proofs.Math.Nat.{add-mod-mod, mod-add-mod, mod-mod, add-mul, add_assoc, mul_assoc, pow-zero, pow-succ'}
use Rattle.std.proofs.lemmas.Nat.{mul-mod_first}
use Rattle.coset_label.specs.Labels.{Column}
use Rattle.coset_label.specs.Tags.{residue, fold_number}

-- one step of Horner's rule sees a number modulo m
pub step_same : (m b f g r : ℕ) → f % m ≡ g % m → (f * b + r) % m ≡ (g * b + r) % m
step_same m b f g r e =
    sym (mod-add-mod (f * b) m r) ∙ ap (λ x. (x + r) % m) (sym (mul-mod_first f b m) ∙ ap (λ x. x * b % m) e ∙ mul-mod_first g b m) ∙ mod-add-mod (g * b) m r

-- the fold sees its first number modulo 2^38
pub fold_same : (f g : ℕ) (xs : Column) → f % 2 ^ 38 ≡ g % 2 ^ 38 → fold fold_number f xs % 2 ^ 38 ≡ fold fold_number g xs % 2 ^ 38
fold_same f g [] e = e
fold_same f g (v ∷ xs) e = ap (λ x. fold fold_number x xs % 2 ^ 38) (step_same (2 ^ 38) 1000003 f g (residue v) e)

-- a first number that is a sum
pub fold_plus : (f g : ℕ) (xs : Column) → fold fold_number (f + g) xs % 2 ^ 38 ≡ (f * 1000003 ^ length xs + fold fold_number g xs) % 2 ^ 38
fold_plus f g [] = ap (λ x. (x + g) % 2 ^ 38) (sym (one-power f))
  where
    one-power : (f : ℕ) → f * 1000003 ^ zero ≡ f
    one-power f = ap (λ p. f * p) (pow-zero 1000003) ∙ (omega arith)
fold_plus f g (v ∷ xs) =
    fold_same (fold_number (f + g) v) (f * 1000003 + fold_number g v) xs apart
    ∙ fold_plus (f * 1000003) (fold_number g v) xs
    ∙ ap (λ x. (x + fold fold_number (fold_number g v) xs) % 2 ^ 38) (mul_assoc f 1000003 (1000003 ^ length xs) ∙ ap (λ p. f * p) (sym (pow-succ' 1000003 (length xs))))
  where
    apart : fold_number (f + g) v % 2 ^ 38 ≡ (f * 1000003 + fold_number g v) % 2 ^ 38
    apart =
        mod-mod ((f + g) * 1000003 + residue v) (2 ^ 38)
        ∙ ap (λ x. (x + residue v) % 2 ^ 38) (add-mul f g 1000003)
        ∙ ap (λ x. x % 2 ^ 38) (add_assoc (f * 1000003) (g * 1000003) (residue v))
        ∙ sym (add-mod-mod (f * 1000003) (g * 1000003 + residue v) (2 ^ 38))

-- what the numbers before a column come to behind it
pub fold_behind : (f : ℕ) (xs : Column) → fold fold_number f xs % 2 ^ 38 ≡ (f * 1000003 ^ length xs + fold fold_number 0 xs) % 2 ^ 38
fold_behind f xs = ap (λ x. fold fold_number x xs % 2 ^ 38) (omega arith) ∙ fold_plus f 0 xs

-- a number and its negative come to 0
residue_negative : (v : ℤ) → (residue v + residue (neg_ℤ v)) % 2 ^ 38 ≡ 0
residue_negative (pos zero) = refl
residue_negative (pos (suc n)) = omega arith
residue_negative (negsuc n) = omega arith

-- two folds that come to 0 do so one number later
negative_step : (f g r s : ℕ) → (f + g) % 2 ^ 38 ≡ 0 → (r + s) % 2 ^ 38 ≡ 0 → ((f * 1000003 + r) % 2 ^ 38 + (g * 1000003 + s) % 2 ^ 38) % 2 ^ 38 ≡ 0
negative_step f g r s e h = omega arith

-- the folds of numbers and of their negatives come to 0
pub fold_negative : (f g : ℕ) (xs : Column) → (f + g) % 2 ^ 38 ≡ 0 → (fold fold_number f xs + fold fold_number g (map neg_ℤ xs)) % 2 ^ 38 ≡ 0
fold_negative f g [] e = e
fold_negative f g (v ∷ xs) e = fold_negative (fold_number f v) (fold_number g (neg_ℤ v)) xs (negative_step f g (residue v) (residue (neg_ℤ v)) e (residue_negative v))
