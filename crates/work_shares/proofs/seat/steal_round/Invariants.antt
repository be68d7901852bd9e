use Rattle.std.proofs.Common.{None}
use Rattle.work_shares.specs.Thefts.{Steals}
use Rattle.work_shares.proofs.seat.steal_round.Given as goal

abbrev pub invariant-loop-i : goal.invariant-loop-i
invariant-loop-i l = Steals None l.fn.thefts.items l.thefts.items
