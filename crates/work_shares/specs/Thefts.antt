-- Ways into others' deques.
use Rattle.std.specs.Prelude.{◌≡◌, ℕ, ◌+◌, ◌-◌, ◌%◌, List, Option, IfSome, Contains, Any, map, sum_by}
use Rattle.std.specs.List.{range_with_len}
use Rattle.std.specs.declared.alloc.Global.{Global}
use Rattle.crossbeam_deque.specs.Handles.{view, stealer_deque}
use Rattle.work_shares.specs.declared.entry.View.{View}
use Rattle.work_shares.specs.declared.entry.Entry.{Entry}
use Rattle.work_shares.specs.declared.entry.Entry.TheVariants.{Work, End}
use Rattle.work_shares.specs.declared.theft.Theft.{Theft}
use Rattle.work_shares.specs.Entries.{blocks_left, entries_of}
use Rattle.work_shares.specs.Gives.{weighed, given}

-- which deque it is
abbrev pub DequeId : Type 0
DequeId = (ℕ × ℕ) × Global

-- the deque that a theft goes into
abbrev pub deque_into : Theft → DequeId
deque_into t = stealer_deque t.thief

-- what a theft knows of its deque
abbrev pub view_into : Theft → View
view_into t = view t.pass

abbrev pub pushed_into : Theft → List Entry
pushed_into t = (view_into t).pushed

-- what a theft got, by a weight
abbrev pub got_by : (Entry → ℕ) → Theft → ℕ
got_by weight t = sum_by weight (view_into t).got

abbrev pub left_into : Theft → ℕ
left_into t = blocks_left (view_into t)

-- what each deque after a worker's own was given
unfoldable pub entries_after : ℕ → ℕ → ℕ → List (List Entry)
entries_after count workers worker = map (λ i. entries_of count workers ((worker + 1 + i) % workers)) (range_with_len 0 (workers - 1))

-- one theft of the list got the block of the number, which was pushed there, or none did
pub record Steals (number : Option ℕ) (old new : List Theft) : Type 0 where
  pub deques : map deque_into new ≡ map deque_into old
  pub pushed : map pushed_into new ≡ map pushed_into old
  pub got : (weight : Entry → ℕ) → weight End ≡ 0 → sum_by (got_by weight) new ≡ sum_by (got_by weight) old + weighed weight number
  pub left : sum_by left_into new + given number ≡ sum_by left_into old
  pub known : IfSome number (λ n. Any (λ pushed. Contains pushed (Work n)) (map pushed_into old))
