use Rattle.std.proofs.Common.{rules, arith}
use Rattle.steal_sweep.proofs.Leading.{splits}
use Rattle.steal_sweep.proofs.best.Best.split.Goals as goal

pub split_seat-requires : goal.split_seat-requires
split_seat-requires c = let o = c.args.self.now.one.0 in (search rules, omega (arith, o), splits _ _ c.requires.parts)
