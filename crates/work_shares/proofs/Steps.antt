-- A worker's numbers, in steps of the workers.
use Rattle.std.proofs.Common.{◌≡◌, ◌≢◌, ℕ, zero, suc, ◌+◌, ◌-◌, ◌*◌, ◌%◌, ◌==◌, ◌<◌, ◌≤◌, ⊎_elim, Bool, true, false, cond, ◌∷◌, filter, sym, ap, ◌∙◌, subst, arith}
use Rattle.std.specs.List.{range_with_len}
use Rattle.std.proofs.Math.Nat.{mod-eq_of_lt, add-mod_right, add-mul-mod_self_right}
use Rattle.std.proofs.lemmas.Bool.{cases_lt}
use Rattle.std.proofs.lemmas.Bool.Decides.{nat_tests}
use Rattle.work_shares.specs.Cuts.{numbers_of}

-- the test of a worker's numbers
abbrev pub is_own : ℕ → ℕ → ℕ → Bool
is_own workers worker number = number % workers == worker

-- numbers at the front that fail the test fall away
skip : (p : ℕ → Bool) (a m j : ℕ) → ((i : ℕ) → i < j → p (a + i) ≡ false) → filter p (range_with_len a m) ≡ filter p (range_with_len (a + j) (m - j))
skip p a m zero none = let s : a ≡ a + 0 = omega arith in let n : m ≡ m - 0 = omega arith in ap (λ k. filter p (range_with_len k m)) s ∙ ap (λ k. filter p (range_with_len (a + 0) k)) n
skip p a zero (suc j) none = let n : 0 ≡ 0 - suc j = omega arith in ap (λ k. filter p (range_with_len (a + suc j) k)) n
skip p a (suc m) (suc j) none =
    let here : p a ≡ false = (let z : a + 0 ≡ a = omega arith in subst (λ k. p k ≡ false) z (none 0 (omega arith))) in
    let rest = skip p (a + 1) m j (λ i lt. (let e : a + suc i ≡ a + 1 + i = omega arith in subst (λ k. p k ≡ false) e (none (suc i) (omega arith)))) in
    let s : a + 1 + j ≡ a + suc j = omega arith in
    let n : m - j ≡ suc m - suc j = omega arith in
    ap (λ b. cond b (a ∷ filter p (range_with_len (a + 1) m)) (filter p (range_with_len (a + 1) m))) here ∙ rest ∙ ap (λ k. filter p (range_with_len k (m - j))) s ∙ ap (λ k. filter p (range_with_len (a + suc j) k)) n

-- a number that is not the worker's
is_false : (workers worker number : ℕ) → number % workers ≢ worker → is_own workers worker number ≡ false
is_false workers worker number other = grind (arith, nat_tests, other)

-- a number that is the worker's
is_true : (workers worker number : ℕ) → number % workers ≡ worker → is_own workers worker number ≡ true
is_true workers worker number same = grind (arith, nat_tests)

-- a worker's number and less than the workers more
moved_on : (workers worker r : ℕ) → worker < workers → 0 < r → r < workers → (worker + r) % workers ≢ worker
moved_on workers worker r lt some few same = ⊎_elim
    (λ (low : worker + r < workers). omega (arith, mod-eq_of_lt low))
    (λ (high : workers ≤ worker + r).
    let back : worker + r ≡ (worker + r - workers) + workers = omega arith in
    let small : worker + r - workers < workers = omega arith in
    let m : (worker + r) % workers ≡ worker + r - workers = ap (λ k. k % workers) back ∙ add-mod_right (worker + r - workers) workers ∙ mod-eq_of_lt small in
    omega arith)
    (cases_lt (worker + r) workers)

-- before the first step
pub numbers_start : (count workers worker : ℕ) → worker < workers → numbers_of count workers worker ≡ filter (is_own workers worker) (range_with_len worker (count - worker))
unfolding numbers_of
numbers_start count workers worker lt =
    skip (is_own workers worker) 0 count worker (λ i below.
    let m : (0 + i) % workers ≡ 0 + i = mod-eq_of_lt (let l : 0 + i < workers = omega arith in l) in
    is_false workers worker (0 + i) (λ e. omega arith)) ∙ (let z : 0 + worker ≡ worker = omega arith in ap (λ k. filter (is_own workers worker) (range_with_len k (count - worker))) z)

-- a step
pub numbers_step : (count workers worker number index : ℕ) → worker < workers → number ≡ worker + index * workers → number < count
    → filter (is_own workers worker) (range_with_len number (count - number)) ≡ number ∷ filter (is_own workers worker) (range_with_len (number + workers) (count - (number + workers)))
numbers_step count workers worker number index lt at more =
    let p = is_own workers worker in
    let rem : number % workers ≡ worker = ap (λ k. k % workers) at ∙ add-mul-mod_self_right worker index workers ∙ mod-eq_of_lt lt in
    let n : count - number ≡ suc (count - number - 1) = omega arith in
    let here = is_true workers worker number rem in
    let rest = skip p (number + 1) (count - number - 1) (workers - 1) (λ i below.
    let e : number + 1 + i ≡ worker + (1 + i) + index * workers = omega arith in
    let m : (number + 1 + i) % workers ≡ (worker + (1 + i)) % workers = ap (λ k. k % workers) e ∙ add-mul-mod_self_right (worker + (1 + i)) index workers in
    is_false workers worker (number + 1 + i) (λ s. moved_on workers worker (1 + i) lt (omega arith) (omega arith) (sym m ∙ s))) in
    let s : number + 1 + (workers - 1) ≡ number + workers = omega arith in
    let t : count - number - 1 - (workers - 1) ≡ count - (number + workers) = omega arith in
    ap (λ k. filter p (range_with_len number k)) n
    ∙ ap (λ b. cond b (number ∷ filter p (range_with_len (number + 1) (count - number - 1))) (filter p (range_with_len (number + 1) (count - number - 1)))) here
    ∙ ap (λ l. number ∷ l) (rest ∙ ap (λ k. filter p (range_with_len k (count - number - 1 - (workers - 1)))) s ∙ ap (λ k. filter p (range_with_len (number + workers) k)) t)
