-- A sum over all workers, a worker first and then those after it, counted round.
use Rattle.std.proofs.Common.{◌≡◌, ℕ, zero, suc, ◌+◌, ◌-◌, ◌%◌, ◌<◌, refl, sym, ap, ◌∙◌, arith}
use Rattle.std.specs.List.{sum_by, range_with_len}
use Rattle.std.proofs.lemmas.List.Sums.{sum_by-cons, sum_by-append}
use Rattle.std.proofs.Math.Nat.{mod-eq_of_lt, add-mod_right}
use Rattle.work_shares.proofs.Cover.{range-append}

-- sums over two ranges, term by term
shifted : (g f : ℕ → ℕ) (a b m : ℕ) → ((i : ℕ) → i < m → g (a + i) ≡ f (b + i)) → sum_by g (range_with_len a m) ≡ sum_by f (range_with_len b m)
shifted g f a b zero same = refl
shifted g f a b (suc m) same =
    let head : g a ≡ f b = (let x : a + 0 ≡ a = omega arith in let y : b + 0 ≡ b = omega arith in ap g (sym x) ∙ same 0 (omega arith) ∙ ap f y) in
    let rest = shifted g f (a + 1) (b + 1) m (λ i lt.
    let x : a + suc i ≡ a + 1 + i = omega arith in
    let y : b + suc i ≡ b + 1 + i = omega arith in
    ap g (sym x) ∙ same (suc i) (omega arith) ∙ ap f y) in
    omega (arith, sum_by-cons g a (range_with_len (a + 1) m), sum_by-cons f b (range_with_len (b + 1) m))

pub sum_by-rotated : (f : ℕ → ℕ) (workers worker : ℕ) → worker < workers → f worker + sum_by (λ i. f ((worker + 1 + i) % workers)) (range_with_len 0 (workers - 1)) ≡ sum_by f (range_with_len 0 workers)
sum_by-rotated f workers worker lt =
    let g : ℕ → ℕ = λ i. f ((worker + 1 + i) % workers) in
    let m : ℕ = workers - 1 - worker in
    let cut : workers - 1 ≡ m + worker = omega arith in
    let after = shifted g f 0 (worker + 1) m (λ i below.
    let small : worker + 1 + (0 + i) < workers = omega arith in
    let same : worker + 1 + (0 + i) ≡ worker + 1 + i = omega arith in
    ap f (mod-eq_of_lt small ∙ same)) in
    let before = shifted g f m 0 worker (λ i below.
    let back : worker + 1 + (m + i) ≡ i + workers = omega arith in
    let small : i < workers = omega arith in
    let same : i ≡ 0 + i = omega arith in
    ap f (ap (λ k. k % workers) back ∙ add-mod_right i workers ∙ mod-eq_of_lt small ∙ same)) in
    let parts : sum_by g (range_with_len 0 (workers - 1)) ≡ sum_by g (range_with_len 0 m) + sum_by g (range_with_len m worker) =
    ap (λ n. sum_by g (range_with_len 0 n)) cut ∙ ap (sum_by g) (sym (range-append 0 m worker)) ∙ sum_by-append g (range_with_len 0 m) (range_with_len (0 + m) worker)
    ∙ (let z : 0 + m ≡ m = omega arith in ap (λ k. sum_by g (range_with_len 0 m) + sum_by g (range_with_len k worker)) z) in
    let whole : sum_by f (range_with_len 0 workers) ≡ sum_by f (range_with_len 0 worker) + sum_by f (range_with_len worker (suc m)) =
    (let e : workers ≡ worker + suc m = omega arith in ap (λ n. sum_by f (range_with_len 0 n)) e) ∙ ap (sum_by f) (sym (range-append 0 worker (suc m))) ∙ sum_by-append f (range_with_len 0 worker) (range_with_len (0 + worker) (suc m))
    ∙ (let z : 0 + worker ≡ worker = omega arith in ap (λ k. sum_by f (range_with_len 0 worker) + sum_by f (range_with_len k (suc m))) z) in
    omega (arith, sum_by-cons f worker (range_with_len (worker + 1) m))
