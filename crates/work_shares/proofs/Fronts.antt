-- What stands before the end marks of a list of entries.
use Rattle.std.proofs.Common.{◌≡◌, ℕ, zero, suc, ◌<◌, List, [], ◌∷◌, ◌++◌, map, length, refl, ap, arith}
use Rattle.std.specs.Prelude.{replicate}
use Rattle.std.specs.List.{sum_by}
use Rattle.std.proofs.lemmas.List.Sums.{sum_by-cons}
use Rattle.work_shares.specs.declared.entry.Entry.{Entry}
use Rattle.work_shares.specs.declared.entry.Entry.TheVariants.{Work, End}
use Rattle.work_shares.specs.Entries.{ends, is_end}

-- the list behind its first element
abbrev rest : List Entry → List Entry
rest [] = []
rest (x ∷ xs) = xs

-- the first element
abbrev first : Entry → List Entry → Entry
first d [] = d
first d (x ∷ xs) = x

-- the front of a list of end marks has no blocks
only_ends : (xs ys : List Entry) (k : ℕ) (weight : Entry → ℕ) → xs ++ ys ≡ replicate k End → weight End ≡ 0 → sum_by weight xs ≡ 0
only_ends [] ys k weight e none = refl
only_ends (x ∷ xs) ys zero weight e none = absurd (let n : length (x ∷ xs ++ ys) ≡ 0 = ap length e in omega arith)
only_ends (x ∷ xs) ys (suc k) weight e none =
    omega (arith, sum_by-cons weight x xs, only_ends xs ys k weight (ap rest e) none, ap weight (ap (first x) e), none)

-- a front with an end mark has each block, once
pub got_each : (xs ys : List Entry) (numbers : List ℕ) (k : ℕ) (weight : Entry → ℕ) → xs ++ ys ≡ map Work numbers ++ replicate k End → 0 < ends xs → weight End ≡ 0
    → sum_by weight xs ≡ sum_by (λ number. weight (Work number)) numbers
got_each [] ys numbers k weight e some_end none = absurd (omega arith)
got_each (x ∷ xs) ys [] k weight e some_end none = only_ends (x ∷ xs) ys k weight e none
got_each (x ∷ xs) ys (n ∷ ns) k weight e some_end none =
    let same : x ≡ Work n = ap (first x) e in
    let mark : is_end x ≡ 0 = ap is_end same in
    let more = got_each xs ys ns k weight (ap rest e) (omega (arith, sum_by-cons is_end x xs)) none in
    omega (arith, sum_by-cons weight x xs, sum_by-cons (λ (number : ℕ). weight (Work number)) n ns, ap weight same, more)
