-- What all deques were given, one worker's first and then those after it.
use Rattle.std.proofs.Common.{◌≡◌, ℕ, ◌+◌, ◌-◌, ◌*◌, ◌%◌, ◌<◌, List, ap, arith}
use Rattle.std.specs.List.{sum_by, range_with_len}
use Rattle.work_shares.specs.declared.entry.Entry.{Entry}
use Rattle.work_shares.specs.declared.entry.Entry.TheVariants.{Work, End}
use Rattle.work_shares.specs.Cuts.{numbers_of}
use Rattle.work_shares.specs.Entries.{entries_of}
use Rattle.work_shares.specs.Thefts.{entries_after}
use Rattle.work_shares.proofs.Counts.{sum_by-same, sum_by-mapped, sum_by-numbers_of}
use Rattle.work_shares.proofs.Pushes.{sum_by-entries_of}
use Rattle.work_shares.proofs.Rotated.{sum_by-rotated}

-- all deques together were given each block, where end marks weigh nothing
pub sum_by-entries_all : (weight : Entry → ℕ) (count workers worker : ℕ) → worker < workers → weight End ≡ 0
    → sum_by weight (entries_of count workers worker) + sum_by (λ entries. sum_by weight entries) (entries_after count workers worker) ≡ sum_by (λ number. weight (Work number)) (range_with_len 0 count)
unfolding entries_after
sum_by-entries_all weight count workers worker lt none =
    let f : ℕ → ℕ = λ d. sum_by weight (entries_of count workers d) in
    let h : ℕ → ℕ = λ number. weight (Work number) in
    let g : ℕ → ℕ = λ d. sum_by h (numbers_of count workers d) in
    let each : (d : ℕ) → f d ≡ g d = λ d. omega (arith, sum_by-entries_of weight count workers d, ap (λ k. workers * k) none) in
    omega (
      arith,
      sum_by-mapped (λ (entries : List Entry). sum_by weight entries) (λ i. entries_of count workers ((worker + 1 + i) % workers)) (range_with_len 0 (workers - 1)),
      sum_by-rotated f workers worker lt,
      sum_by-same f g (range_with_len 0 workers) each,
      sum_by-numbers_of h count workers (omega arith),
    )
