use Rattle.std.proofs.Common.{◌≡◌, ◌≤◌, take, count_by}
use Rattle.tc_circuit.specs.Gate.{is_h}
use Rattle.tc_circuit.proofs.circuit.Circuit.h_count.Given as goal

abbrev pub invariant-loop-gate : goal.invariant-loop-gate
invariant-loop-gate l = (l.count ≡ count_by is_h (take l.gate-index l.gate-items)) × (l.count ≤ l.gate-index)
