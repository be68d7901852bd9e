-- Sums over lists of lists, and over the numbers of all workers.
use Rattle.std.proofs.Common.{◌≡◌, ℕ, zero, suc, ◌+◌, ◌%◌, ◌==◌, ◌<◌, ◌≤◌, Bool, true, false, cond, List, [], ◌∷◌, map, flat_map, filter, refl, ap, ◌∙◌, arith}
use Rattle.std.specs.List.{sum_by, range_with_len}
use Rattle.std.proofs.lemmas.List.Sums.{sum_by-cons, sum_by-append}
use Rattle.std.proofs.lemmas.Bool.Decides.{nat_tests}
use Rattle.std.proofs.Math.Nat.{mod-lt}
use Rattle.work_shares.specs.Cuts.{numbers_of}

module _ {X : Type 0} where
  -- the sum of two
  pub sum_by-both : (f g : X → ℕ) (xs : List X) → sum_by (λ x. f x + g x) xs ≡ sum_by f xs + sum_by g xs
  sum_by-both f g [] = refl
  sum_by-both f g (x ∷ xs) = omega (arith, sum_by-both f g xs, sum_by-cons f x xs, sum_by-cons g x xs, sum_by-cons (λ (y : X). f y + g y) x xs)

  -- functions with the same values
  pub sum_by-same : (f g : X → ℕ) (xs : List X) → ((x : X) → f x ≡ g x) → sum_by f xs ≡ sum_by g xs
  sum_by-same f g [] same = refl
  sum_by-same f g (x ∷ xs) same = omega (arith, sum_by-same f g xs same, sum_by-cons f x xs, sum_by-cons g x xs, same x)

  -- the sum of zeros
  pub sum_by-nothing : (xs : List X) → sum_by (λ x. 0) xs ≡ 0
  sum_by-nothing [] = refl
  sum_by-nothing (x ∷ xs) = omega (arith, sum_by-cons (λ (y : X). 0) x xs, sum_by-nothing xs)

  -- a sum over a mapped list
  pub sum_by-mapped : {Y : Type 0} (f : Y → ℕ) (g : X → Y) (xs : List X) → sum_by f (map g xs) ≡ sum_by (λ x. f (g x)) xs
  sum_by-mapped f g [] = refl
  sum_by-mapped f g (x ∷ xs) = omega (arith, sum_by-cons f (g x) (map g xs), sum_by-cons (λ (y : X). f (g y)) x xs, sum_by-mapped f g xs)

  -- a sum over lists in a row
  pub sum_by-flat_map : {Y : Type 0} (f : Y → ℕ) (g : X → List Y) (xs : List X) → sum_by f (flat_map g xs) ≡ sum_by (λ x. sum_by f (g x)) xs
  sum_by-flat_map f g [] = refl
  sum_by-flat_map f g (x ∷ xs) = omega (arith, sum_by-append f (g x) (flat_map g xs), sum_by-cons (λ (y : X). sum_by f (g y)) x xs, sum_by-flat_map f g xs)

-- the sum over a range of what stands at one number of it alone
abbrev at_one : ℕ → ℕ → ℕ → ℕ
at_one v c d = cond (v == d) c 0

-- that number is below the range
past_one : (v c first n : ℕ) → v < first → sum_by (at_one v c) (range_with_len first n) ≡ 0
past_one v c first zero lt = refl
past_one v c first (suc n) lt =
    let e : (v == first) ≡ false = grind (arith, nat_tests) in
    let none : at_one v c first ≡ 0 = ap (λ b. cond b c 0) e in
    omega (arith, sum_by-cons (at_one v c) first (range_with_len (first + 1) n), past_one v c (first + 1) n (omega arith))

-- that number is the first of the range, or it comes later
pick_first : (v c first n : ℕ) (b : Bool) → (v == first) ≡ b → first ≤ v → (first + 1 ≤ v → sum_by (at_one v c) (range_with_len (first + 1) n) ≡ c) → sum_by (at_one v c) (range_with_len first (suc n)) ≡ c
pick_first v c first n true e low rest =
    let same : v ≡ first = grind (arith, nat_tests) in
    omega (arith, sum_by-cons (at_one v c) first (range_with_len (first + 1) n), past_one v c (first + 1) n (omega arith), ap (λ b. cond b c 0) e)
pick_first v c first n false e low rest =
    let more : first + 1 ≤ v = grind (arith, nat_tests) in
    omega (arith, sum_by-cons (at_one v c) first (range_with_len (first + 1) n), rest more, ap (λ b. cond b c 0) e)

-- that number is in the range
pick_one : (v c first n : ℕ) → first ≤ v → v < first + n → sum_by (at_one v c) (range_with_len first n) ≡ c
pick_one v c first zero low high = absurd (omega arith)
pick_one v c first (suc n) low high = pick_first v c first n (v == first) refl low (λ more. pick_one v c (first + 1) n more (omega arith))

-- a filtered list, by its first element
sum_by-filter-cons : (h : ℕ → ℕ) (p : ℕ → Bool) (x : ℕ) (xs : List ℕ) → sum_by h (filter p (x ∷ xs)) ≡ cond (p x) (h x) 0 + sum_by h (filter p xs)
sum_by-filter-cons h p x xs = by_test (p x) where
  by_test : (b : Bool) → sum_by h (cond b (x ∷ filter p xs) (filter p xs)) ≡ cond b (h x) 0 + sum_by h (filter p xs)
  by_test true = sum_by-cons h x (filter p xs)
  by_test false = omega arith

-- each number is in the share of one worker
pub sum_by-classes : (h : ℕ → ℕ) (workers : ℕ) (xs : List ℕ) → 0 < workers → sum_by (λ d. sum_by h (filter (λ x. x % workers == d) xs)) (range_with_len 0 workers) ≡ sum_by h xs
sum_by-classes h workers [] some = sum_by-nothing (range_with_len 0 workers)
sum_by-classes h workers (x ∷ xs) some =
    let here : ℕ → ℕ = at_one (x % workers) (h x) in
    let there : ℕ → ℕ = λ d. sum_by h (filter (λ (y : ℕ). y % workers == d) xs) in
    sum_by-same (λ d. sum_by h (filter (λ (y : ℕ). y % workers == d) (x ∷ xs))) (λ d. here d + there d) (range_with_len 0 workers) (λ d. sum_by-filter-cons h (λ (y : ℕ). y % workers == d) x xs)
    ∙ sum_by-both here there (range_with_len 0 workers)
    ∙ (let l = mod-lt x some in omega (arith, pick_one (x % workers) (h x) 0 workers (omega arith) (omega arith), sum_by-classes h workers xs some, sum_by-cons h x xs))

-- the numbers of all workers are those below the count
pub sum_by-numbers_of : (h : ℕ → ℕ) (count workers : ℕ) → 0 < workers → sum_by (λ d. sum_by h (numbers_of count workers d)) (range_with_len 0 workers) ≡ sum_by h (range_with_len 0 count)
unfolding numbers_of
sum_by-numbers_of h count workers some = sum_by-classes h workers (range_with_len 0 count) some
