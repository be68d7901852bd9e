use Rattle.std.proofs.Common.{arith}
use Rattle.level_store.proofs.tests.grow_all.Goals as goal

pub loop-alloc-smaller : goal.loop-alloc-smaller
loop-alloc-smaller g c = omega (arith, c.height.ensures, c.loop-alloc-test.true, c.in_ok-grow_one.ensures.more)
