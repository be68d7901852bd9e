use Rattle.std.proofs.Common.{arith}
use Rattle.tc_bridge.specs.Block.{to_z}
use Rattle.tc_bridge.proofs.Rising.{rising_more, to_z_len}
use Rattle.tc_bridge.proofs.block.push_all_to_z.Goals as goal

pub push_to_z-requires-clause-room : goal.push_to_z-requires-clause-room
push_to_z-requires-clause-room c = omega (arith, to_z_len c.args.p.now.code c.loop-q.q 0)

pub loop-q-preserved : goal.loop-q-preserved
loop-q-preserved c = rising_more (to_z c.args.p.now.code) c.loop-q.q _ _ _ c.loop-q.invariant c.push_to_z.ensures
