use Rattle.std.proofs.Common.{vec_len}
use Rattle.work_shares.proofs.Parting.{IsParting}
use Rattle.work_shares.proofs.settling.take_apart.Given as goal

abbrev pub invariant-loop-shares : goal.invariant-loop-shares
invariant-loop-shares g l = IsParting l.fn.shares.items l.shares.items l.parts

abbrev pub decreases-loop-shares : goal.decreases-loop-shares
decreases-loop-shares g l = vec_len l.shares
