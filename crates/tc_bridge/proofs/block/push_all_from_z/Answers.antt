use Rattle.std.proofs.Common.{◌-◌, arith}
use Rattle.tc_bridge.specs.Block.{to_z}
use Rattle.tc_bridge.proofs.Rising.{falling_more, from_z_len}
use Rattle.tc_bridge.proofs.block.push_all_from_z.Goals as goal

pub push_from_z-requires-clause-room : goal.push_from_z-requires-clause-room
push_from_z-requires-clause-room c = omega (arith, from_z_len c.args.p.now.code (c.args.p.now.qubits - c.loop-q.q) c.loop-q.q)

pub loop-q-preserved : goal.loop-q-preserved
loop-q-preserved c = falling_more (to_z c.args.p.now.code) c.args.p.now.qubits c.loop-q.q _ _ _ (omega arith) (omega arith) c.loop-q.invariant c.push_from_z.ensures
