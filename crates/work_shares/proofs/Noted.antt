-- A seat was given no block twice.
use Rattle.std.proofs.Common.{ℕ, ◌≤◌, List, [], ◌∷◌, map, refl, ap, arith}
use Rattle.std.specs.List.{sum_by, range_with_len}
use Rattle.std.proofs.lemmas.List.Sums.{sum_by-cons}
use Rattle.work_shares.specs.declared.entry.Entry.{Entry}
use Rattle.work_shares.specs.declared.theft.Theft.{Theft}
use Rattle.work_shares.specs.declared.seat.Seat.{Seat}
use Rattle.work_shares.specs.Cuts.{block_at, dealt, IsPartOf}
use Rattle.work_shares.specs.Blocks.{extents_of}
use Rattle.work_shares.specs.Entries.{weight_of}
use Rattle.work_shares.specs.Thefts.{pushed_into, got_by}
use Rattle.work_shares.specs.Seats.{count_of, IsSeated}
use Rattle.work_shares.proofs.Counts.{sum_by-mapped}
use Rattle.work_shares.proofs.Permuted.{part_of, same_pair, tells_pairs}
use Rattle.work_shares.proofs.AllGiven.{sum_by-entries_all}

-- thefts got no more than was pushed where they lead
stolen_le : (weight : Entry → ℕ) (thefts : List Theft) → sum_by (got_by weight) thefts ≤ sum_by (λ entries. sum_by weight entries) (map pushed_into thefts)
stolen_le weight [] = omega arith
stolen_le weight (t ∷ ts) =
    omega (arith, t.apart weight, stolen_le weight ts, sum_by-cons (got_by weight) t ts, sum_by-cons (λ (entries : List Entry). sum_by weight entries) (pushed_into t) (map pushed_into ts))

-- what the seat noted weighs no more than what was dealt
noted_le : (s : Seat) → IsSeated s → (weight : ℕ × ℕ → ℕ) → sum_by weight (extents_of s.noted.items) ≤ sum_by weight (dealt s.cut.total s.cut.size)
unfolding dealt
noted_le s h weight =
    let w : Entry → ℕ = weight_of weight s.cut.total s.cut.size in
    omega (
      arith,
      h.noted weight,
      h.stands.apart w,
      ap (sum_by w) h.stands.own,
      stolen_le w s.thefts.items,
      ap (sum_by (λ (entries : List Entry). sum_by w entries)) h.stands.others,
      sum_by-entries_all w (count_of s) s.workers s.worker h.stands.worker refl,
      sum_by-mapped weight (block_at s.cut.total s.cut.size) (range_with_len 0 (count_of s)),
    )

-- the blocks that the seat noted are dealt ones, none twice
pub noted_apart : (s : Seat) → IsSeated s → IsPartOf (extents_of s.noted.items) (dealt s.cut.total s.cut.size)
noted_apart s h = part_of same_pair tells_pairs (extents_of s.noted.items) (dealt s.cut.total s.cut.size) (noted_le s h)
