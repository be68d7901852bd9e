use Rattle.std.proofs.Common.{arith}
use Rattle.tc_bridge.specs.Block.{gather}
use Rattle.tc_bridge.proofs.Rising.{rising_more, gather_len}
use Rattle.tc_bridge.proofs.block.push_all_gathers.Goals as goal

pub push_gather-requires-clause-room : goal.push_gather-requires-clause-room
push_gather-requires-clause-room c = omega (arith, gather_len c.args.z c.args.p.now.code c.loop-control.control 0)

pub loop-control-preserved : goal.loop-control-preserved
loop-control-preserved c = rising_more (gather c.args.z c.args.p.now.code) c.loop-control.control _ _ _ c.loop-control.invariant c.push_gather.ensures
