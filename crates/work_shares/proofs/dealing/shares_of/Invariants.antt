use Rattle.std.proofs.Common.{◌≡◌, map, length, vec_capacity}
use Rattle.work_shares.specs.Cuts.{block_count}
use Rattle.work_shares.specs.Owners.{deque_of}
use Rattle.work_shares.proofs.Handing.{IsSharing}
use Rattle.work_shares.proofs.dealing.shares_of.Given as goal

abbrev pub invariant-loop-worker : goal.invariant-loop-worker
invariant-loop-worker g l =
    IsSharing l.cut.total l.cut.size (block_count l.cut.total l.cut.size) (length l.fn.loads.items) (map deque_of l.fn.owners.items) l.fn.loads.items l.worker l.owners.items l.thefts.items l.loads.items l.shares.items
    × (vec_capacity l.shares ≡ l.workers)
