use Rattle.std.proofs.Common.{rules, arith}
use Rattle.steal_sweep.proofs.Leading.{puts}
use Rattle.steal_sweep.proofs.best.Best.put.Goals as goal

pub fetch_min-requires : goal.fetch_min-requires
fetch_min-requires c = let o = c.args.self.now.one.0 in (search rules, omega (arith, o), puts _ _ _ _ c.args.seat.now.live)
