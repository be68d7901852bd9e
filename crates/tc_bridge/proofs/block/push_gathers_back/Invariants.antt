use Rattle.std.proofs.Common.{◌-◌}
use Rattle.tc_bridge.specs.Block.{as_gates, undone, gather, rising, Appends}
use Rattle.tc_bridge.proofs.block.push_gathers_back.Given as goal

-- the qubits from q on are done
abbrev pub invariant-loop-control : goal.invariant-loop-control
invariant-loop-control l = Appends l.initial.out l.out (as_gates (undone (rising (gather l.z l.p.code) (l.p.qubits - l.control) l.control)))
