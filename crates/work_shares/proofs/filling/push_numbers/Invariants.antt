use Rattle.std.proofs.Common.{◌-◌}
use Rattle.work_shares.proofs.Pushing.{HasNumbers}
use Rattle.work_shares.proofs.filling.push_numbers.Given as goal

abbrev pub invariant-loop-number : goal.invariant-loop-number
invariant-loop-number l = HasNumbers l.count l.workers l.worker l.number l.fn.owner l.owner

abbrev pub decreases-loop-number : goal.decreases-loop-number
decreases-loop-number l = l.count - l.number
