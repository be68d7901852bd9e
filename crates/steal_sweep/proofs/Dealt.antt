-- The positions of dealt blocks.
use Rattle.std.proofs.Common.{ℕ, ◌+◌, ◌<◌, ◌≤◌, List, All, Contains, flat_map, subst}
use Rattle.std.specs.List.{range_with_len}
use Rattle.std.specs.List.Sorted.{IsPermutation}
use Rattle.std.proofs.lemmas.List.Elements.{All-contains}
use Rattle.std.proofs.lemmas.List.Sorted.{All-permutation, IsPermutation-sym}
use Rattle.work_shares.specs.declared.block.Block.{Block}
use Rattle.work_shares.specs.Cuts.{dealt, positions_of}
use Rattle.work_shares.specs.Blocks.{extents_of}
use Rattle.work_shares.proofs.Cover.{dealt-cover, dealt-within}
use Rattle.steal_sweep.specs.Positions.{positions_in}
use Rattle.steal_sweep.proofs.Lists.{All-flat_map, All-from_flat_map}

-- a dealt block ends within the deal
pub block_within : (total size first count : ℕ) → 0 < size → Contains (dealt total size) (first, count) → first + count ≤ total
block_within total size first count some has = All-contains (λ block. block.0 + block.1 ≤ total) (dealt total size) (first, count) (dealt-within total size some) has

-- what holds of each position of the blocks that workers took, which are those dealt, holds of each position of the deal
pub whole_deal : (P : ℕ → Type 0) (total size : ℕ) (taken : List (List Block)) → 0 < size → IsPermutation (dealt total size) (flat_map extents_of taken) → All (λ blocks. All P (positions_in blocks)) taken → All P (range_with_len 0 total)
whole_deal P total size taken some once all =
    let Q : ℕ × ℕ → Type 0 = λ block. All P (positions_of block) in
    let each : All (λ blocks. All Q (extents_of blocks)) taken = λ k d lt. All-from_flat_map positions_of P _ (all k d lt) in
    subst (All P) (dealt-cover total size some) (All-flat_map positions_of P (dealt total size) (All-permutation Q (flat_map extents_of taken) (dealt total size) (IsPermutation-sym (dealt total size) (flat_map extents_of taken) once) (All-flat_map extents_of Q taken each)))
