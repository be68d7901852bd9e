use Rattle.std.proofs.Common.{rules, ◌<◌, length}
use Rattle.work_shares.proofs.Rounds.{steals_at, steals_then}
use Rattle.work_shares.proofs.seat.steal_round.Goals as goal

pub returns-in-Some : goal.returns-in-Some
returns-in-Some c =
    let lt : c.loop-i.i < length c.loop-i.thefts.items = search rules in
    let e = c.in-Some.ensures in
    steals_then _ _ _ _ c.loop-i.invariant (steals_at _ c.loop-i.thefts.items c.loop-i.i c.index_mut-theft.result.now c.try_steal.new.self lt c.index_mut-theft.ensures.value e.gives e.deque)

pub loop-i-preserved : goal.loop-i-preserved
loop-i-preserved c =
    let lt : c.loop-i.i < length c.loop-i.thefts.items = search rules in
    let e = c.in_default.ensures in
    steals_then _ _ _ _ c.loop-i.invariant (steals_at _ c.loop-i.thefts.items c.loop-i.i c.index_mut-theft.result.now c.try_steal.new.self lt c.index_mut-theft.ensures.value e.gives e.deque)
