use Rattle.std.proofs.Common.{length}
use Rattle.steal_sweep.proofs.Joined.{Joined}
use Rattle.steal_sweep.proofs.least.join_seats.Given as goal

abbrev pub invariant-loop-seat : goal.invariant-loop-seat
invariant-loop-seat g l = Joined l.best l.all l.seekers.items l.fn.seekers.items

abbrev pub decreases-loop-seat : goal.decreases-loop-seat
decreases-loop-seat g l = length l.seekers.items
