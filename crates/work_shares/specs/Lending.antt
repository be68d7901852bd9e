-- What owners lend.
use Rattle.std.specs.Prelude.{◌≡◌, ℕ, ◌+◌, ◌-◌, ◌%◌, ◌<◌, List, [], Vec, Some, All, false, map, length, replicate, slice_get, slice_index, slice_index_or}
use Rattle.std.specs.List.{range_with_len}
use Rattle.std.specs.declared.alloc.Global.{Global}
use Rattle.work_shares.specs.declared.theft.Theft.{Theft}
use Rattle.work_shares.specs.Thefts.{deque_into, view_into, pushed_into, entries_after}
use Rattle.work_shares.specs.Ways.{ways_of, ways_from}
use Rattle.work_shares.specs.Owners.{Owner, deque_of, parts_of, pushed_of, LeadOn, IsUntaken}

-- nothing was stolen on this way
pub record IsUnused (t : Theft) : Type 0 where
  pub going : t.over ≡ false
  pub got : (view_into t).got ≡ []

-- a way into the owner's deque, with one part of the owner's
pub record IsLent (t : Theft) (old new : Owner) : Type 0 where
  pub unused : IsUnused t
  pub deque : deque_into t ≡ deque_of old
  pub given : pushed_into t ≡ pushed_of old
  pub same : deque_of new ≡ deque_of old
  pub pushed : pushed_of new ≡ pushed_of old
  pub parts : parts_of new + 1 ≡ parts_of old
  pub untaken : IsUntaken new

-- owners that lent parts and stay as they were otherwise
pub record IsLender (lent : ℕ → ℕ) (old new : List Owner) : Type 0 where
  pub deques : map deque_of new ≡ map deque_of old
  pub pushed : map pushed_of new ≡ map pushed_of old
  pub parts : (d : ℕ) → d < length old → slice_index (map parts_of new) d + lent d ≡ slice_index (map parts_of old) d
  pub untaken : All IsUntaken new

-- the first ways of a worker
pub record AreWays (worker n : ℕ) (thefts : List Theft) (owners : List Owner) : Type 0 where
  pub lead : LeadOn (map deque_of owners) worker thefts
  pub given : map pushed_into thefts ≡ map (λ i. slice_index_or (map pushed_of owners) ((worker + 1 + i) % length owners) []) (range_with_len 0 n)
  pub unused : All IsUnused thefts

-- the first ways of a worker are lent
pub record Lends (worker n : ℕ) (thefts : List Theft) (old new : List Owner) : Type 0 where
  pub ways : AreWays worker n thefts old
  pub lender : IsLender (λ d. ways_of (length old) d worker n) old new

-- all ways of the first workers are lent
pub record LendsAll (n : ℕ) (thefts : List (Vec Theft Global)) (old new : List Owner) : Type 0 where
  pub count : length thefts ≡ n
  pub ways : (worker : ℕ) (own : Vec Theft Global) → slice_get thefts worker ≡ Some own → AreWays worker (length old - 1) own.items old
  pub lender : IsLender (λ d. ways_from (length old) d 0 (replicate n (length old - 1))) old new

-- the ways of a worker lead into deques that were given what is theirs, and nothing was stolen
pub record AreGiven (count workers worker : ℕ) (thefts : List Theft) : Type 0 where
  pub given : map pushed_into thefts ≡ entries_after count workers worker
  pub unused : All IsUnused thefts
