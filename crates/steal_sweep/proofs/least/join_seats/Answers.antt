use Rattle.steal_sweep.proofs.Joined.{joined_first, joined_next, last_of}
use Rattle.steal_sweep.proofs.least.join_seats.Goals as goal

pub loop-seat-init : goal.loop-seat-init
loop-seat-init g c = joined_first _ c.in-Some.field-0 _ _ c.in-Some.ensures.items c.requires.seats

pub join-requires-clause-other : goal.join-requires-clause-other
join-requires-clause-other g c = last_of c.args.best.now _ _ c.in-Some-pop.field-0 c.in-Some-pop.ensures.items c.loop-seat.invariant.seats

pub loop-seat-preserved : goal.loop-seat-preserved
loop-seat-preserved g c = joined_next _ _ _ c.in-Some-pop.field-0 _ _ _ c.in-Some-pop.ensures.items c.join.ensures.same c.join.ensures.both c.loop-seat.invariant
