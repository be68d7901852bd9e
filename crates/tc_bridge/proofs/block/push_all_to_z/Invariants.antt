use Rattle.tc_bridge.specs.Block.{as_gates, to_z, rising, Appends}
use Rattle.tc_bridge.proofs.block.push_all_to_z.Given as goal

abbrev pub invariant-loop-q : goal.invariant-loop-q
invariant-loop-q l = Appends l.initial.out l.out (as_gates (rising (to_z l.p.code) l.q 0))
