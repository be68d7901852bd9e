use Rattle.std.proofs.Common.{◌-◌, arith, subst, sym}
use Rattle.tc_bridge.specs.Block.{as_gates, gather, Appends}
use Rattle.tc_bridge.proofs.Rising.{falling_more, back_len, undone-gather}
use Rattle.tc_bridge.proofs.block.push_gathers_back.Goals as goal

pub push_gather-requires-clause-room : goal.push_gather-requires-clause-room
push_gather-requires-clause-room c = omega (arith, back_len c.args.z c.args.p.now.code (c.args.p.now.qubits - c.loop-control.control) c.loop-control.control)

pub loop-control-preserved : goal.loop-control-preserved
loop-control-preserved c =
    falling_more (gather c.args.z c.args.p.now.code) c.args.p.now.qubits c.loop-control.control _ _ _ (omega arith) (omega arith) c.loop-control.invariant
    (subst (λ gates. Appends c.loop-control.out c.push_gather.new.out (as_gates gates)) (sym (undone-gather c.args.z c.args.p.now.code (c.loop-control.control - 1))) c.push_gather.ensures)
