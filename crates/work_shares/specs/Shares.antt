-- Shares and settled deals as callers see them.
use Rattle.std.specs.Prelude.{◌≡◌, ℕ, Bool, false, List, Vec, [], All, IsTrue, map, flat_map}
use Rattle.std.specs.declared.alloc.Global.{Global}
use Rattle.work_shares.specs.declared.block.Block.{Block}
use Rattle.work_shares.specs.declared.share.Share.{Share}
use Rattle.work_shares.specs.declared.settling.Settled.{Settled}
use Rattle.work_shares.specs.Cuts.{blocks_for}
use Rattle.work_shares.specs.Blocks.{extents_of}
use Rattle.work_shares.specs.Seats.{place_of_seat, seat_left, HasOwnMark}
use Rattle.work_shares.specs.Places.{Place, ArePlaces}

module _ {L : Type 0} where
  -- where a share stands in its deal, which nothing changes
  abbrev pub place_of : Share L → Place
  place_of s = place_of_seat s.seat

  -- the blocks that the share was given, in order
  abbrev pub noted_by : Share L → List Block
  noted_by s = s.seat.noted.items

  -- whether a call for a block was answered by none
  abbrev pub is_ended : Share L → Bool
  is_ended s = s.seat.ended

  -- the share has taken an end mark from its own deque, behind which no block stands
  abbrev pub HasOwnEnd : Share L → Type 0
  HasOwnEnd s = HasOwnMark s.seat

  -- the blocks that went into its deque
  abbrev pub own_blocks : Share L → List (ℕ × ℕ)
  own_blocks s = blocks_for (place_of s).total (place_of s).size (place_of s).workers (place_of s).worker

  -- how many blocks the share may still be given
  abbrev pub share_left : Share L → ℕ
  share_left s = seat_left s.seat

  -- what the share carries
  abbrev pub load_of : Share L → L
  load_of s = s.load

  -- nothing was given, and the share has not ended
  pub record IsFresh (s : Share L) : Type 0 where
    pub noted : noted_by s ≡ []
    pub going : is_ended s ≡ false

  -- all the shares of one deal, in order
  abbrev pub AreDeal : ℕ → ℕ → List (Share L) → Type 0
  AreDeal total block shares = ArePlaces total block (map place_of shares)

  -- a call for a block was answered by none at each share
  abbrev pub AreEnded : List (Share L) → Type 0
  AreEnded shares = All (λ s. IsTrue (is_ended s)) shares

  -- the blocks of each worker, in the order in which they were taken
  abbrev pub blocks_of : Settled L → List (List Block)
  blocks_of s = map (λ (own : Vec Block Global). own.items) s.notes.items

  -- the blocks of all workers
  abbrev pub all_blocks : Settled L → List (ℕ × ℕ)
  all_blocks s = flat_map extents_of (blocks_of s)

  -- the load of each worker
  abbrev pub loads_of : Settled L → List L
  loads_of s = s.loads.items
