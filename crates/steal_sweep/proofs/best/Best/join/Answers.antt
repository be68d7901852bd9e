use Rattle.std.proofs.Common.{rules, arith}
use Rattle.steal_sweep.proofs.Leading.{joins}
use Rattle.steal_sweep.proofs.best.Best.join.Goals as goal

pub join_seat-requires : goal.join_seat-requires
join_seat-requires c = let o = c.args.self.now.one.0 in (search rules, search rules, search rules, omega (arith, o), joins _ _ _ _ c.args.seat.now.live c.args.other.live)
