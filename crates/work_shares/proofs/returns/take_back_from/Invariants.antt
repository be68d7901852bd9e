use Rattle.std.proofs.Common.{vec_len}
use Rattle.work_shares.proofs.TakingBack.{IsLeft}
use Rattle.work_shares.proofs.returns.take_back_from.Given as goal

abbrev pub invariant-loop-theft : goal.invariant-loop-theft
invariant-loop-theft l = IsLeft l.worker l.fn.thefts.items l.fn.owners.items l.thefts.items l.owners.items

abbrev pub decreases-loop-theft : goal.decreases-loop-theft
decreases-loop-theft l = vec_len l.thefts
