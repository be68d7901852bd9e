-- The positions of all dealt blocks, in whatever order.
use Rattle.std.proofs.Common.{◌≡◌, ℕ, ◌==◌, ◌<◌, List, [], ◌∷◌, ◌++◌, IsPermutation, map, flat_map, refl, sym, ap, ◌∙◌}
use Rattle.std.specs.List.{sum_by, range_with_len}
use Rattle.std.proofs.lemmas.Grind.{flat_map-append}
use Rattle.std.proofs.lemmas.List.Concat.{flat_map-cons}
use Rattle.std.proofs.lemmas.List.Sorted.{sum_by-IsPermutation}
use Rattle.work_shares.specs.declared.block.Block.{Block}
use Rattle.work_shares.specs.Blocks.{extents_of}
use Rattle.work_shares.specs.Cuts.{dealt, positions_of}
use Rattle.work_shares.proofs.Counts.{sum_by-flat_map}
use Rattle.work_shares.proofs.Cover.{dealt-cover}
use Rattle.work_shares.proofs.Permuted.{permuted, tells_numbers}

-- where the blocks are those dealt, each once, their positions are those below the total, each once
pub positions_once : (total size : ℕ) (blocks : List (ℕ × ℕ)) → 0 < size → IsPermutation (dealt total size) blocks → IsPermutation (range_with_len 0 total) (flat_map positions_of blocks)
positions_once total size blocks some once = permuted (λ (a b : ℕ). a == b) tells_numbers (range_with_len 0 total) (flat_map positions_of blocks) (λ weight.
    let of_block : ℕ × ℕ → ℕ = λ block. sum_by weight (positions_of block) in
    ap (sum_by weight) (sym (dealt-cover total size some))
    ∙ sum_by-flat_map weight positions_of (dealt total size)
    ∙ sym (sum_by-IsPermutation of_block (dealt total size) blocks once)
    ∙ sym (sum_by-flat_map weight positions_of blocks))

-- the positions of the blocks of all, one list of blocks behind the other, list by list
pub positions_by_share : {X : Type 0} (noted : X → List Block) (xs : List X) → flat_map positions_of (flat_map extents_of (map noted xs)) ≡ flat_map (λ x. flat_map positions_of (extents_of (noted x))) xs
positions_by_share noted [] = refl
positions_by_share noted (x ∷ xs) =
    ap (flat_map positions_of) (flat_map-cons extents_of (noted x) (map noted xs))
    ∙ flat_map-append positions_of (extents_of (noted x)) (flat_map extents_of (map noted xs))
    ∙ ap (λ l. flat_map positions_of (extents_of (noted x)) ++ l) (positions_by_share noted xs)
    ∙ sym (flat_map-cons (λ y. flat_map positions_of (extents_of (noted y))) x xs)
