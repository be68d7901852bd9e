-- Entries of a deque, and views of it.
use Rattle.std.specs.Prelude.{ℕ, ◌-◌, List, ◌++◌, map, replicate, sum_by}
use Rattle.work_shares.specs.declared.entry.View.{View}
use Rattle.work_shares.specs.declared.entry.Entry.{Entry}
use Rattle.work_shares.specs.declared.entry.Entry.TheVariants.{Work, End}
use Rattle.work_shares.specs.Cuts.{block_at, numbers_of}

abbrev pub view : ℕ → List Entry → List Entry → View
view parts pushed got = record { parts = parts; pushed = pushed; got = got }

-- 1 for an end mark, and 0 for a block
abbrev pub is_end : Entry → ℕ
is_end (Work number) = 0
is_end End = 1

-- 1 for a block, and 0 for an end mark
abbrev pub is_work : Entry → ℕ
is_work (Work number) = 1
is_work End = 0

-- how many end marks the list has
abbrev pub ends : List Entry → ℕ
ends entries = sum_by is_end entries

-- how many blocks were pushed that this view has not got
abbrev pub blocks_left : View → ℕ
blocks_left v = sum_by is_work v.pushed - sum_by is_work v.got

-- a weight of blocks, as one of entries: end marks weigh nothing
abbrev pub weight_of : (ℕ × ℕ → ℕ) → ℕ → ℕ → Entry → ℕ
weight_of weight total size (Work number) = weight (block_at total size number)
weight_of weight total size End = 0

-- what goes into a worker's deque: the numbers of its blocks, and as many end marks as there are workers
unfoldable pub entries_of : ℕ → ℕ → ℕ → List Entry
entries_of count workers worker = map Work (numbers_of count workers worker) ++ replicate workers End
