use Rattle.std.proofs.Common.{rules, arith}
use Rattle.steal_sweep.proofs.Leading.{looks}
use Rattle.steal_sweep.proofs.best.Best.load.Goals as goal

pub load-requires : goal.load-requires
load-requires c = let o = c.args.self.now.one.0 in (search rules, omega (arith, o), looks _ _ _ c.args.seat.now.live)
