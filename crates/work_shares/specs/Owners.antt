-- The owners of the deques of a deal, in order, and the thefts into them.
use Rattle.std.specs.Prelude.{◌≡◌, ℕ, ◌+◌, ◌%◌, ◌<◌, ◌≤◌, List, [], Vec, Some, length, map, slice_get, slice_index, sum_by}
use Rattle.std.specs.declared.alloc.Global.{Global}
use Rattle.crossbeam_deque.specs.Handles.{worker_view, worker_deque, worker_flavor}
use Rattle.crossbeam_deque.specs.declared.handles.Worker.{Worker}
use Rattle.work_shares.specs.declared.entry.View.{View}
use Rattle.work_shares.specs.declared.entry.Entry.{Entry}
use Rattle.work_shares.specs.declared.deque.DealRule.{DealRule}
use Rattle.work_shares.specs.declared.theft.Theft.{Theft}
use Rattle.work_shares.specs.Entries.{ends, entries_of}
use Rattle.work_shares.specs.Rule.{all_parts}
use Rattle.work_shares.specs.Thefts.{DequeId, deque_into}

abbrev pub Owner : Type 0
Owner = Worker Entry Global View DealRule

-- which deque an owner has, how many parts it has, what was pushed, and what it got by a weight
abbrev pub deque_of : Owner → DequeId
deque_of owner = worker_deque owner

abbrev pub parts_of : Owner → ℕ
parts_of owner = (worker_view owner).parts

abbrev pub pushed_of : Owner → List Entry
pushed_of owner = (worker_view owner).pushed

abbrev pub owner_got : (Entry → ℕ) → Owner → ℕ
owner_got weight owner = sum_by weight (worker_view owner).got

-- nothing was taken from the deque, which gives its first entry first
pub record IsUntaken (owner : Owner) : Type 0 where
  pub front : worker_flavor owner ≡ 0
  pub got : (worker_view owner).got ≡ []

-- the deque was given what is its worker's, and the owner has every part
pub record IsFilled (count workers worker : ℕ) (owner : Owner) : Type 0 where
  pub untaken : IsUntaken owner
  pub pushed : pushed_of owner ≡ entries_of count workers worker
  pub whole : parts_of owner ≡ all_parts

-- the same of the first workers, in order
pub record AreFilled (count workers n : ℕ) (owners : List Owner) : Type 0 where
  pub length_is : length owners ≡ n
  pub each : (worker : ℕ) (owner : Owner) → slice_get owners worker ≡ Some owner → IsFilled count workers worker owner

-- the deque was given what is its worker's, nothing was taken, and each other worker has a part
pub record IsReady (count workers worker : ℕ) (owner : Owner) : Type 0 where
  pub untaken : IsUntaken owner
  pub pushed : pushed_of owner ≡ entries_of count workers worker
  pub parts : parts_of owner + workers ≡ 9

-- the thefts of a worker lead into the deques of the workers after it, counted round
abbrev pub LeadOn : List DequeId → ℕ → List Theft → Type 0
LeadOn deques worker thefts = (i : ℕ) (d : DequeId) → slice_get (map deque_into thefts) i ≡ Some d → slice_get deques ((worker + 1 + i) % length deques) ≡ Some d

-- the same of all workers
abbrev pub LeadAllOn : List DequeId → List (Vec Theft Global) → Type 0
LeadAllOn deques thefts = (worker : ℕ) (own : Vec Theft Global) → slice_get thefts worker ≡ Some own → LeadOn deques worker own.items

-- the owner has a part, so it may take others back
abbrev pub IsLive : Owner → Type 0
IsLive owner = 0 < parts_of owner

-- how many end marks the owner has got
abbrev pub marks_of : Owner → ℕ
marks_of owner = ends (worker_view owner).got

-- it has got one
abbrev pub HasMark : Owner → Type 0
HasMark owner = 0 < marks_of owner

-- each owner has at least as many end marks as before
abbrev pub KeepMarks : List Owner → List Owner → Type 0
KeepMarks old new = (d : ℕ) → slice_index (map marks_of old) d ≤ slice_index (map marks_of new) d

-- the owners took back so many parts of each deque, and what these got, by each weight
pub record TookBack (back : ℕ → ℕ) (taken : (Entry → ℕ) → ℕ) (old new : List Owner) : Type 0 where
  pub deques : map deque_of new ≡ map deque_of old
  pub pushed : map pushed_of new ≡ map pushed_of old
  pub parts : (d : ℕ) → d < length old → slice_index (map parts_of new) d ≡ slice_index (map parts_of old) d + back d
  pub got : (weight : Entry → ℕ) → sum_by (owner_got weight) new ≡ sum_by (owner_got weight) old + taken weight
