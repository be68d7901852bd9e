-- Blocks as callers see them.
use Rattle.std.specs.Prelude.{ℕ, List, map}
use Rattle.work_shares.specs.declared.block.Block.{Block}

-- a block's first position, and how many positions it has
abbrev pub extent_of : Block → ℕ × ℕ
extent_of block = (block.first, block.count)

-- the same of each block
abbrev pub extents_of : List Block → List (ℕ × ℕ)
extents_of blocks = map extent_of blocks
