use Rattle.work_shares.proofs.Pushing.{HasEnds}
use Rattle.work_shares.proofs.filling.push_ends.Given as goal

abbrev pub invariant-loop : goal.invariant-loop
invariant-loop l = HasEnds l.counter l.fn.owner l.owner
