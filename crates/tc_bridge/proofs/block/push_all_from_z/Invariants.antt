use Rattle.std.proofs.Common.{◌-◌}
use Rattle.tc_bridge.specs.Block.{as_gates, undone, to_z, rising, Appends}
use Rattle.tc_bridge.proofs.block.push_all_from_z.Given as goal

-- the qubits from q on are done
abbrev pub invariant-loop-q : goal.invariant-loop-q
invariant-loop-q l = Appends l.initial.out l.out (as_gates (undone (rising (to_z l.p.code) (l.p.qubits - l.q) l.q)))
