-- Where a share stands in its deal, and when places are those of one deal.
use Rattle.std.specs.Prelude.{◌≡◌, ℕ, ◌+◌, ◌%◌, ◌<◌, ◌≤◌, List, map, length, Some, slice_get}
use Rattle.work_shares.specs.declared.entry.Entry.{Entry}
use Rattle.work_shares.specs.Cuts.{block_count}
use Rattle.work_shares.specs.Entries.{entries_of}
use Rattle.work_shares.specs.Thefts.{DequeId}

-- what was cut, how many workers there are and which one it is, its deque and what that was given, and the deques of the workers after it
pub record Place : Type 0 where
  pub total : ℕ
  pub size : ℕ
  pub workers : ℕ
  pub worker : ℕ
  pub deque : DequeId
  pub given : List Entry
  pub others : List DequeId

-- place j belongs to worker j of one deal, whose deque was given the numbers of its blocks and the end marks behind them. Deque i of the
-- others is that of worker j + 1 + i, counted round
pub record ArePlaces (total size : ℕ) (places : List Place) : Type 0 where
  pub some : 0 < length places
  pub few : length places ≤ 8
  pub each : (j : ℕ) (p : Place) → slice_get places j ≡ Some p → (p.total ≡ total) × (p.size ≡ size) × (p.workers ≡ length places) × (p.worker ≡ j)
      × (p.given ≡ entries_of (block_count total size) (length places) j)
  pub others : (i j : ℕ) (p : Place) (d : DequeId) → slice_get places j ≡ Some p → slice_get p.others i ≡ Some d
      → slice_get (map (λ (q : Place). q.deque) places) ((j + 1 + i) % length places) ≡ Some d
