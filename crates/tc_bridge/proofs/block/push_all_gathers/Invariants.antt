use Rattle.tc_bridge.specs.Block.{as_gates, gather, rising, Appends}
use Rattle.tc_bridge.proofs.block.push_all_gathers.Given as goal

abbrev pub invariant-loop-control : goal.invariant-loop-control
invariant-loop-control l = Appends l.initial.out l.out (as_gates (rising (gather l.z l.p.code) l.control 0))
