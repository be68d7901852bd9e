-- Every part comes back.
use Rattle.std.proofs.Common.{◌≡◌, ℕ, ◌+◌, ◌-◌, ◌==◌, ◌<◌, ◌≤◌, Bool, true, replicate, get_or, nat_lt, refl, ◌∙◌, subst, arith}
use Rattle.std.specs.List.{range_with_len, list_all}
use Rattle.std.proofs.lemmas.List.Sums.{AllPass-from_list_all}
use Rattle.std.proofs.lemmas.List.FromFn.{length-range_with_len, get_or-range_with_len}
use Rattle.std.proofs.lemmas.Bool.Decides.{nat_tests}
use Rattle.work_shares.specs.Ways.{ways_of, ways_from}

-- where each of so many workers has a way to each other one, as many lead into each deque as there are other workers
is_full : ℕ → ℕ → Bool
is_full workers deque = ways_from workers deque 0 (replicate workers (workers - 1)) + 1 == workers

-- it holds for each number of workers
all_full : list_all (λ workers. list_all (is_full workers) (range_with_len 0 workers)) (range_with_len 0 9) ≡ true
unfolding is_full ways_from ways_of
all_full = refl

-- what a test of each number below a bound says
below_test : (p : ℕ → Bool) (n k : ℕ) → list_all p (range_with_len 0 n) ≡ true → k < n → p k ≡ true
below_test p n k all lt =
    let at : get_or (range_with_len 0 n) k 0 ≡ 0 + k = get_or-range_with_len 0 n k 0 lt in
    let here : p (get_or (range_with_len 0 n) k 0) ≡ true = AllPass-from_list_all p (range_with_len 0 n) all k 0 (omega (arith, length-range_with_len 0 n)) in
    subst (λ j. p j ≡ true) (at ∙ omega arith) here

-- the same as an equation
pub ways_full : (workers deque : ℕ) → workers ≤ 8 → deque < workers → ways_from workers deque 0 (replicate workers (workers - 1)) + 1 ≡ workers
unfolding is_full
ways_full workers deque few lt =
    let row : list_all (is_full workers) (range_with_len 0 workers) ≡ true = below_test (λ w. list_all (is_full w) (range_with_len 0 w)) 9 workers all_full (omega arith) in
    let cell : (ways_from workers deque 0 (replicate workers (workers - 1)) + 1 == workers) ≡ true = below_test (is_full workers) workers deque row lt in
    grind (arith, nat_tests)

-- no deque has more than seven ways from any number of the first workers
is_few : ℕ → ℕ → ℕ → Bool
is_few workers deque n = nat_lt (ways_from workers deque 0 (replicate n (workers - 1))) 8

-- it holds for each number of workers
all_few : list_all (λ workers. list_all (λ deque. list_all (is_few workers deque) (range_with_len 0 (workers + 1))) (range_with_len 0 workers)) (range_with_len 0 9) ≡ true
unfolding is_few ways_from ways_of
all_few = refl

-- the same as a bound
pub ways_few : (workers deque n : ℕ) → workers ≤ 8 → deque < workers → n ≤ workers → ways_from workers deque 0 (replicate n (workers - 1)) < 8
unfolding is_few
ways_few workers deque n few lt le =
    let rows : list_all (λ d. list_all (is_few workers d) (range_with_len 0 (workers + 1))) (range_with_len 0 workers) ≡ true =
    below_test (λ w. list_all (λ d. list_all (is_few w d) (range_with_len 0 (w + 1))) (range_with_len 0 w)) 9 workers all_few (omega arith) in
    let row : list_all (is_few workers deque) (range_with_len 0 (workers + 1)) ≡ true = below_test (λ d. list_all (is_few workers d) (range_with_len 0 (workers + 1))) workers deque rows lt in
    let cell : nat_lt (ways_from workers deque 0 (replicate n (workers - 1))) 8 ≡ true = below_test (is_few workers deque) (workers + 1) n row (omega arith) in
    grind (arith, nat_tests)
