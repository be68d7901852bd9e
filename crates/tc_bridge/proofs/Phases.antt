-- A number over a power of √2 whose absolute value is 1 is a power of ω.
use Rattle.std.proofs.Common.{◌≡◌, ℕ, zero, suc, ◌+◌, ◌*◌, ◌^◌, ◌<◌, ◌≤◌, Bool, ◌||◌, not, T as Holds, [], ◌∷◌, refl, ap, sym, ◌∙◌, arith, lit<, negsuc, nat_abs, pow-suc, T_not}
use Rattle.std.specs.Prelude.{ℤ, pos, ◌+ℤ◌, ◌-ℤ◌, ◌*ℤ◌}
use Rattle.std.proofs.lemmas.Int.{ints}
use Rattle.ring_laws.specs.Ring.{integers, power}
use Rattle.ring_laws.specs.Cyclotomic.{Zω, number, cyclotomics, integer, plus, times, conjugate, ω, root2, norm_whole, norm_root}
use Rattle.ring_laws.proofs.Ring.{power-zero, power-suc, mul_left_comm}
use Rattle.ring_laws.proofs.Reader.{ring, reads, from}
use Rattle.ring_laws.proofs.Integers.{integers_laws}
use Rattle.ring_laws.proofs.Squares.{square_is}
use Rattle.ring_laws.proofs.Cyclotomic.{coordinatewise, coordinates, cyclotomics_laws as laws, times-one, root2-times, times-conjugate, integer-times, norm_whole-times, norm_root-times}
use Rattle.pauli_basis.proofs.Small.{all, all_at2}
use Rattle.tc_bridge.proofs.Decide.{same_int, int_same, same_number, number_equal, some_below, some_at}
use Rattle.tc_bridge.proofs.AllGates.{or_right}
use Rattle.tc_bridge.proofs.Powers.{root2-double}
use Rattle.tc_bridge.proofs.Parity.{IsEven, even_both}

-- ω^turn · √2^k
pub record IsTurned (k : ℕ) (x : Zω) : Type 0 where
  pub turn : ℕ
  pub low : turn < 8
  pub is : x ≡ times (power cyclotomics ω turn) (power cyclotomics root2 k)

-- ---- at exponent 0 each coordinate is −1, 0 or 1
record Small (x : ℤ) : Type 0 where
  place : ℕ
  low : place < 3
  is : x ≡ pos place -ℤ pos 1

-- a whole number whose square is at most 1
small : (x : ℤ) → nat_abs x * nat_abs x ≤ 1 → Small x
small (pos zero) h = record { place = 1; low = lit< tt; is = refl }
small (pos (suc zero)) h = record { place = 2; low = lit< tt; is = refl }
small (pos (suc (suc n))) h = absurd (omega arith)
small (negsuc zero) h = record { place = 0; low = lit< tt; is = refl }
small (negsuc (suc n)) h = absurd (omega arith)

-- the numbers with coordinates −1, 0 and 1
abbrev number_at : ℕ → ℕ → ℕ → ℕ → Zω
number_at a b c d = number (pos a -ℤ pos 1) (pos b -ℤ pos 1) (pos c -ℤ pos 1) (pos d -ℤ pos 1)

-- a number of norm 1 is one of the eight powers
abbrev turned_at : ℕ → ℕ → ℕ → ℕ → Bool
turned_at a b c d = let x = number_at a b c d in not (same_int (norm_whole integers x) (pos 1)) || some_below 8 (λ j. same_number x (power cyclotomics ω j))

-- computed for all 81 of them
turns_computed : Holds (all 3 (λ a. all 3 (λ b. all 3 (λ c. all 3 (turned_at a b c)))))
unfolding integer times power ω
turns_computed = tt

-- a number of norm 1 is a power of ω
unit_start : (x : Zω) → norm_whole integers x ≡ pos 1 → IsTurned 0 x
unit_start x e =
    let q0 = square_is x.x0 in let q1 = square_is x.x1 in let q2 = square_is x.x2 in let q3 = square_is x.x3 in
    by (small x.x0 (omega (arith, ints))) (small x.x1 (omega (arith, ints))) (small x.x2 (omega (arith, ints))) (small x.x3 (omega (arith, ints)))
  where
    by : Small x.x0 → Small x.x1 → Small x.x2 → Small x.x3 → IsTurned 0 x
    by s0 s1 s2 s3 =
        let same : x ≡ number_at s0.place s1.place s2.place s3.place = coordinatewise record { x0 = s0.is; x1 = s1.is; x2 = s2.is; x3 = s3.is } in
        let h = all_at2 3 3 (turned_at s0.place s1.place) (all_at2 3 3 (λ a b. all 3 (λ c. all 3 (turned_at a b c))) turns_computed s0.place s1.place s0.low s1.low) s2.place s3.place s2.low s3.low in
        let y = number_at s0.place s1.place s2.place s3.place in
        let one = same_int (norm_whole integers y) (pos 1) in
        let is_one : Holds one = int_same _ _ (sym (ap (norm_whole integers) same) ∙ e) in
        let found = some_at 8 (λ j. same_number y (power cyclotomics ω j)) (or_right (not one) (some_below 8 (λ j. same_number y (power cyclotomics ω j))) (λ n. T_not one n is_one) h) in
        record {
          turn = found.0;
          low = found.1;
          is = same ∙ number_equal _ _ found.2 ∙ sym (ap (times (power cyclotomics ω found.0)) (power-zero laws root2) ∙ times-one _);
        }

-- ---- divided by √2
record Divided (x : Zω) : Type 0 where
  part : Zω
  is : x ≡ times root2 part

-- both sums of opposite coordinates are even, so √2 divides
divided : (x : Zω) (m : ℤ) → norm_whole integers x ≡ m +ℤ m → norm_root integers x ≡ pos 0 → Divided x
divided x m e f =
    let xs = coordinates x [] in
    let product : (x.x0 +ℤ x.x2) *ℤ (x.x1 +ℤ x.x3) ≡ x.x3 *ℤ x.x0 +ℤ x.x3 *ℤ x.x0 = from integers_laws (pos 1) f (ring integers_laws xs (search reads depth 30 parts 0 fits 10000) tt) in
    let squares : (x.x0 +ℤ x.x2) *ℤ (x.x0 +ℤ x.x2) +ℤ (x.x1 +ℤ x.x3) *ℤ (x.x1 +ℤ x.x3) ≡ (m +ℤ x.x0 *ℤ x.x2 +ℤ x.x1 *ℤ x.x3) +ℤ (m +ℤ x.x0 *ℤ x.x2 +ℤ x.x1 *ℤ x.x3)
    = from integers_laws (pos 1) e (ring integers_laws (m ∷ xs) (search reads depth 30 parts 0 fits 10000) tt) in
    by (even_both (x.x0 +ℤ x.x2) (x.x1 +ℤ x.x3) (m +ℤ x.x0 *ℤ x.x2 +ℤ x.x1 *ℤ x.x3) (x.x3 *ℤ x.x0) squares product)
  where
    by : IsEven (x.x0 +ℤ x.x2) × IsEven (x.x1 +ℤ x.x3) → Divided x
    by even =
        let h = even.0.twice in let g = even.1.twice in
        let part = number (x.x1 -ℤ even.1.half) even.0.half even.1.half (x.x2 -ℤ even.0.half) in
        record { part = part; is = coordinatewise record { x0 = omega (arith, ints); x1 = omega (arith, ints); x2 = omega (arith, ints); x3 = omega (arith, ints) } ∙ sym (root2-times part) }

-- √2·y has twice the norm of y
half_norm : (y : Zω) (n : ℕ) → norm_whole integers (times root2 y) ≡ pos (2 * n) → norm_whole integers y ≡ pos n
unfolding root2
half_norm y n e = let h = norm_whole-times root2 y in omega (arith, ints)

half_root : (y : Zω) → norm_root integers (times root2 y) ≡ pos 0 → norm_root integers y ≡ pos 0
unfolding root2
half_root y e = let h = norm_root-times root2 y in omega (arith, ints)

-- a number of norm 2^k is a turn of √2^k
by_norms : (k : ℕ) (x : Zω) → norm_whole integers x ≡ pos (2 ^ k) → norm_root integers x ≡ pos 0 → IsTurned k x
by_norms zero x e f = unit_start x e
by_norms (suc k) x e f = up (divided x (pos (2 ^ k)) (e ∙ twice) f) (by_norms k)
  where
    power_is : 2 ^ suc k ≡ 2 * 2 ^ k
    power_is = omega (arith, pow-suc 2 k)

    twice : pos (2 ^ suc k) ≡ pos (2 ^ k) +ℤ pos (2 ^ k)
    twice = let h = power_is in omega (arith, ints)

    up : (d : Divided x) → ((y : Zω) → norm_whole integers y ≡ pos (2 ^ k) → norm_root integers y ≡ pos 0 → IsTurned k y) → IsTurned (suc k) x
    up d ih =
        let t = ih d.part (half_norm d.part (2 ^ k) (sym (ap (norm_whole integers) d.is) ∙ e ∙ ap pos power_is)) (half_root d.part (sym (ap (norm_root integers) d.is) ∙ f)) in
        record {
          turn = t.turn;
          low = t.low;
          is = d.is ∙ ap (times root2) t.is ∙ mul_left_comm laws root2 (power cyclotomics ω t.turn) (power cyclotomics root2 k)
              ∙ ap (times (power cyclotomics ω t.turn)) (sym (power-suc laws root2 k));
        }

-- ---- the square of the absolute value
two_power : (k : ℕ) → power cyclotomics root2 (k + k) ≡ integer (pos (2 ^ k))
two_power zero = power-zero laws root2
two_power (suc k) =
    root2-double k ∙ ap (times (integer (pos 2))) (two_power k) ∙ sym (integer-times (pos 2) (pos (2 ^ k)))
    ∙ ap (λ n. integer (pos n)) (let e : 2 * 2 ^ k ≡ 2 ^ suc k = omega (arith, pow-suc 2 k) in e)

-- the coordinates of a + b·√2
real_coordinates : (a b : ℤ) → plus (integer a) (times (integer b) root2) ≡ number a b (pos 0) (pos 0 -ℤ b)
unfolding plus times integer root2
real_coordinates a b = coordinatewise record { x0 = omega (arith, ints); x1 = omega (arith, ints); x2 = omega (arith, ints); x3 = omega (arith, ints) }

-- the coordinates of a whole number
integer_coordinates : (a : ℤ) → integer a ≡ number a (pos 0) (pos 0) (pos 0)
unfolding integer
integer_coordinates a = refl

-- |x| = √2^k makes x one of the eight turns of √2^k
pub phase_of_unit : (k : ℕ) (x : Zω) → times x (conjugate x) ≡ power cyclotomics root2 (k + k) → IsTurned k x
phase_of_unit k x h =
    let e = sym (real_coordinates (norm_whole integers x) (norm_root integers x)) ∙ sym (times-conjugate x) ∙ h ∙ two_power k ∙ integer_coordinates (pos (2 ^ k)) in
    by_norms k x (ap (λ (w : Zω). w.x0) e) (ap (λ (w : Zω). w.x1) e)
