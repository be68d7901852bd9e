-- Two letters that commute: with products, and the signs of their rotations.
use Rattle.std.proofs.Common.{◌≡◌, ℕ, zero, suc, ◌+◌, ◌/◌, ◌%◌, ◌<◌, ◌==◌, Bool, true, false, bit_xor, eqb, eqb→eq, refl, ap, sym, ◌∙◌, arith}
use Rattle.std.specs.Int.Bits.{xor_comm}
use Rattle.std.proofs.lemmas.Nat.{xor_shr, xor_mod}
use Rattle.std.proofs.lemmas.Bool.{eqb-true}
use Rattle.pauli_basis.specs.Letters.{letter_clash}
use Rattle.pauli_basis.specs.Products.{product_code, turns, clashes, commute, sign_turns, anti_sign}
use Rattle.pauli_basis.proofs.Small.{all_at3}
use Rattle.pauli_basis.proofs.Letters.{low-lt}
use Rattle.pauli_basis.proofs.Products.{turns-assoc, commute_both_orders, commute-swap, anti_sign-turns}
use Rattle.channel_rep.specs.Tables.{turned_over}

-- ---- commuting with a product
-- clashes with a product, letter by letter
letter_clash-product : (l m o : ℕ) → l < 4 → m < 4 → o < 4 → letter_clash l (bit_xor m o) % 2 ≡ (letter_clash l m + letter_clash l o) % 2
letter_clash-product l m o bl bm bo =
    eqb→eq _ _ (all_at3 4 4 4 (λ l m o. eqb (letter_clash l (bit_xor m o) % 2) ((letter_clash l m + letter_clash l o) % 2)) tt l m o bl bm bo)

clashes-product : (n p q r : ℕ) → clashes n p (product_code q r) % 2 ≡ (clashes n p q + clashes n p r) % 2
unfolding clashes
clashes-product zero p q r = refl
clashes-product (suc n) p q r =
    omega (
      arith,
      ap (clashes n (p / 4)) (xor_shr q r 2),
      ap (letter_clash (p % 4)) (xor_mod q r 2),
      clashes-product n (p / 4) (q / 4) (r / 4),
      letter_clash-product (p % 4) (q % 4) (r % 4) (low-lt p) (low-lt q) (low-lt r),
    )

-- where P commutes with Q, it commutes with Q·R where it does with R
pub commute-product : (n p q r : ℕ) → commute n p q ≡ true → commute n p (product_code q r) ≡ commute n p r
unfolding commute
commute-product n p q r e = let even = eqb-true (clashes n p q % 2) 0 e in let same : clashes n p (product_code q r) % 2 ≡ clashes n p r % 2 = omega (arith, clashes-product n p q r) in ap (λ x. x == 0) same

-- ---- the signs of two letters that commute
-- both orders have the same turns
both_turns : (n p q r : ℕ) → commute n p q ≡ true → (turns n p r + turns n q (product_code p r)) % 4 ≡ (turns n q r + turns n p (product_code q r)) % 4
both_turns n p q r e =
    sym (turns-assoc n q p r)
    ∙ swapped
    ∙ turns-assoc n p q r
  where
    swapped : (turns n q p + turns n (product_code q p) r) % 4 ≡ (turns n p q + turns n (product_code p q) r) % 4
    swapped = let orders = (commute_both_orders n p q).0 e in omega (arith, ap (λ c. turns n c r) (xor_comm q p), orders)

-- two signs together
joint_sign : (a b : Bool) → ((sign_turns a + sign_turns b) % 4 == 2) ≡ turned_over b a
joint_sign true true = refl
joint_sign true false = refl
joint_sign false true = refl
joint_sign false false = refl

-- where both anticommute with a row, the two signs come to one in either order
pub both_signs : (n p q r : ℕ) → commute n p q ≡ true → commute n p r ≡ false → commute n q r ≡ false
    → turned_over (anti_sign n q (product_code p r)) (anti_sign n p r) ≡ turned_over (anti_sign n p (product_code q r)) (anti_sign n q r)
both_signs n p q r e ep eq =
    sym (joint_sign (anti_sign n p r) (anti_sign n q (product_code p r)))
    ∙ ap (λ t. t == 2) one_sum
    ∙ joint_sign (anti_sign n q r) (anti_sign n p (product_code q r))
  where
    one_sum : (sign_turns (anti_sign n p r) + sign_turns (anti_sign n q (product_code p r))) % 4 ≡ (sign_turns (anti_sign n q r) + sign_turns (anti_sign n p (product_code q r))) % 4
    one_sum =
        omega (
          arith,
          anti_sign-turns n p r ep,
          anti_sign-turns n q r eq,
          anti_sign-turns n q (product_code p r) (commute-product n q p r (commute-swap n q p ∙ e) ∙ eq),
          anti_sign-turns n p (product_code q r) (commute-product n p q r e ∙ ep),
          both_turns n p q r e,
        )
