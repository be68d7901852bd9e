use Rattle.std.proofs.Common.{◌≡◌, ◌≢◌, ℕ, ◌+◌, ◌*◌, ◌^◌, ◌<◌, ◌≤◌, pos, nat_abs, Bool, true, List, length, slice_index, slice_index_or}
use Rattle.quick_label.specs.Blocks.{block_rows}
use Rattle.quick_label.specs.Rooms.{AreBlocks}
use Rattle.quick_label.proofs.front.find_leads.Given as goal

abbrev pub invariant-loop-column : goal.invariant-loop-column
invariant-loop-column l = (span : List Bool) → AreBlocks l.blocks.size span l.blocks → l.all ≡ true → (k : ℕ) → k < l.column
    → (slice_index_or l.numbers k (pos 0) ≢ pos 0)
    × ((behind : ℕ) → 256 ^ behind ≤ 2 * nat_abs (slice_index_or l.numbers k (pos 0)) → 2 * nat_abs (slice_index_or l.numbers k (pos 0)) < 256 ^ (behind + 1)
    → behind < length (block_rows l.blocks.size span k) → slice_index l.leads k ≡ slice_index (block_rows l.blocks.size span k) behind)
