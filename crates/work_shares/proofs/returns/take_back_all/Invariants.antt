use Rattle.std.proofs.Common.{vec_len}
use Rattle.work_shares.proofs.AllBack.{AreLeft}
use Rattle.work_shares.proofs.returns.take_back_all.Given as goal

abbrev pub invariant-loop-last : goal.invariant-loop-last
invariant-loop-last l = AreLeft l.fn.thefts.items l.fn.owners.items l.thefts.items l.owners.items

abbrev pub decreases-loop-last : goal.decreases-loop-last
decreases-loop-last l = vec_len l.thefts
