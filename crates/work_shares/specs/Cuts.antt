-- How a total of positions is cut into blocks: as numbers, first position and count of each block.
use Rattle.std.specs.Prelude.{ℕ, ◌-◌, ◌*◌, ◌%◌, ◌==◌, ◌++◌, List, IsPermutation, min, map, filter}
use Rattle.std.specs.List.{range_with_len}
use Rattle.std.specs.Int.{div_ceil}

-- how many blocks of this size there are below the total
abbrev pub block_count : ℕ → ℕ → ℕ
block_count total size = div_ceil total size

-- the block of a number: its first position, and how many positions it has
abbrev pub block_at : ℕ → ℕ → ℕ → ℕ × ℕ
block_at total size number = (number * size, min size (total - number * size))

-- the blocks of a deal, in rising order
unfoldable pub dealt : ℕ → ℕ → List (ℕ × ℕ)
dealt total size = map (block_at total size) (range_with_len 0 (block_count total size))

-- the numbers of the blocks that go into a worker's deque: those with the worker's number modulo the workers
unfoldable pub numbers_of : ℕ → ℕ → ℕ → List ℕ
numbers_of count workers worker = filter (λ number. number % workers == worker) (range_with_len 0 count)

-- the blocks that go into a worker's deque, in rising order
abbrev pub blocks_for : ℕ → ℕ → ℕ → ℕ → List (ℕ × ℕ)
blocks_for total size workers worker = map (block_at total size) (numbers_of (block_count total size) workers worker)

-- the blocks are some of the whole, in any order, none more often than there: with those that are left they are the whole
abbrev pub IsPartOf : List (ℕ × ℕ) → List (ℕ × ℕ) → Type 0
IsPartOf blocks whole = (left : List (ℕ × ℕ)) × IsPermutation whole (blocks ++ left)

-- the positions of a block, in rising order
abbrev pub positions_of : ℕ × ℕ → List ℕ
positions_of block = range_with_len block.0 block.1
