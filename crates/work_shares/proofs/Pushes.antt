-- What the deques were given.
use Rattle.std.proofs.Common.{◌≡◌, ℕ, ◌+◌, ◌*◌, ◌-◌, ◌%◌, ◌==◌, ◌<◌, List, [], ◌∷◌, All, Contains, map, replicate, refl, subst, arith}
use Rattle.std.specs.List.{sum_by, Any, range_with_len}
use Rattle.std.proofs.lemmas.List.Sums.{sum_by-append, sum_by-cons}
use Rattle.std.proofs.lemmas.List.Folds.{sum_by-replicate}
use Rattle.std.proofs.lemmas.List.Elements.{All-append, All-map, All-filter, All-replicate, All-contains, All-contains_itself, All-from_get_or}
use Rattle.std.proofs.lemmas.List.FromFn.{length-range_with_len, get_or-range_with_len}
use Rattle.work_shares.specs.declared.entry.Entry.{Entry}
use Rattle.work_shares.specs.declared.entry.Entry.TheVariants.{Work, End}
use Rattle.work_shares.specs.Cuts.{numbers_of}
use Rattle.work_shares.specs.Entries.{entries_of, is_end, ends}
use Rattle.work_shares.specs.Thefts.{entries_after}

-- sums over a list of numbers as entries
pub sum_by-works : (weight : Entry → ℕ) (numbers : List ℕ) → sum_by weight (map Work numbers) ≡ sum_by (λ number. weight (Work number)) numbers
sum_by-works weight [] = refl
sum_by-works weight (n ∷ ns) = omega (arith, sum_by-cons weight (Work n) (map Work ns), sum_by-cons (λ (number : ℕ). weight (Work number)) n ns, sum_by-works weight ns)

-- sums over what a worker's deque was given
pub sum_by-entries_of : (weight : Entry → ℕ) (count workers worker : ℕ)
    → sum_by weight (entries_of count workers worker) ≡ sum_by (λ number. weight (Work number)) (numbers_of count workers worker) + workers * weight End
unfolding entries_of
sum_by-entries_of weight count workers worker =
    let numbers = numbers_of count workers worker in
    omega (arith, sum_by-append weight (map Work numbers) (replicate workers End), sum_by-works weight numbers, sum_by-replicate weight workers End)

-- numbers weigh nothing as end marks
none_of : (numbers : List ℕ) → sum_by (λ (number : ℕ). 0) numbers ≡ 0
none_of [] = refl
none_of (n ∷ ns) = omega (arith, sum_by-cons (λ (number : ℕ). 0) n ns, none_of ns)

-- each deque was given as many end marks as there are workers
pub ends-entries_of : (count workers worker : ℕ) → ends (entries_of count workers worker) ≡ workers
ends-entries_of count workers worker = omega (arith, sum_by-entries_of is_end count workers worker, none_of (numbers_of count workers worker))

-- a block's number is below the count
pub IsBelow : ℕ → Entry → Type 0
IsBelow count (Work number) = number < count
IsBelow count End = Unit {0}

-- the numbers of a range are below its end
below_range : (count : ℕ) → All (λ number. number < count) (range_with_len 0 count)
below_range count = All-from_get_or (λ number. number < count) (range_with_len 0 count) 0
    (λ i lt. omega (arith, get_or-range_with_len 0 count i 0 (omega (arith, length-range_with_len 0 count)), length-range_with_len 0 count))

below_entries : (count workers worker : ℕ) → All (IsBelow count) (entries_of count workers worker)
unfolding entries_of numbers_of IsBelow
below_entries count workers worker =
    let numbers = numbers_of count workers worker in
    All-append (IsBelow count) (map Work numbers) (replicate workers End)
    (All-map (IsBelow count) Work numbers (All-filter (λ number. number % workers == worker) (λ number. number < count) (range_with_len 0 count) (below_range count)))
    (All-replicate (IsBelow count) workers End tt)

-- the number of a block that a worker's deque was given
pub below_of : (count workers worker number : ℕ) → Contains (entries_of count workers worker) (Work number) → number < count
unfolding IsBelow
below_of count workers worker number c = All-contains (IsBelow count) (entries_of count workers worker) (Work number) (below_entries count workers worker) c

-- an entry's number is the worker's
pub IsOwn : ℕ → ℕ → ℕ → Entry → Type 0
IsOwn count workers worker (Work number) = Contains (numbers_of count workers worker) number
IsOwn count workers worker End = Unit {0}

own_entries : (count workers worker : ℕ) → All (IsOwn count workers worker) (entries_of count workers worker)
unfolding entries_of IsOwn
own_entries count workers worker =
    let numbers = numbers_of count workers worker in
    All-append (IsOwn count workers worker) (map Work numbers) (replicate workers End)
    (All-map (IsOwn count workers worker) Work numbers (All-contains_itself numbers))
    (All-replicate (IsOwn count workers worker) workers End tt)

-- the number of a block that a worker's deque was given is one of the worker's
pub own_of : (count workers worker number : ℕ) → Contains (entries_of count workers worker) (Work number) → Contains (numbers_of count workers worker) number
unfolding IsOwn
own_of count workers worker number c = All-contains (IsOwn count workers worker) (entries_of count workers worker) (Work number) (own_entries count workers worker) c

-- the number of a block that one of the other deques was given
pub below_after : (count workers worker number : ℕ) → Any (λ pushed. Contains pushed (Work number)) (entries_after count workers worker) → number < count
unfolding entries_after
below_after count workers worker number (k, pushed, lt, is, c) =
    let P : List Entry → Type 0 = λ l. Contains l (Work number) → number < count in
    let each : All P (entries_after count workers worker) = All-map P (λ (i : ℕ). entries_of count workers ((worker + 1 + i) % workers)) (range_with_len 0 (workers - 1)) (λ j d lt'. below_of count workers _ number) in
    subst P is (each k pushed lt) c
