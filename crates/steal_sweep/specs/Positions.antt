-- The positions of blocks.
use Rattle.std.specs.Prelude.{ℕ, List, flat_map}
use Rattle.work_shares.specs.declared.block.Block.{Block}
use Rattle.work_shares.specs.Cuts.{positions_of}
use Rattle.work_shares.specs.Blocks.{extents_of}

-- the positions of the blocks, in order
abbrev pub positions_in : List Block → List ℕ
positions_in blocks = flat_map positions_of (extents_of blocks)
