use Rattle.std.proofs.Common.{◌≡◌}
use Rattle.std.specs.List.{AllByRecursion}
use Rattle.channel_rep.specs.Cells.{table_of}
use Rattle.channel_rep.specs.Gates.{GateFits}
use Rattle.clifford_rest.specs.Rest.{sent_to}
use Rattle.clifford_rest.specs.Sweep.{undo_list}
use Rattle.clifford_rest.proofs.circuit.undo_gates.Given as goal

abbrev pub invariant-loop-q : goal.invariant-loop-q
invariant-loop-q l = (l.gates.items ≡ undo_list l.c.qubits (sent_to l.c.qubits (table_of l.c)) l.q) × AllByRecursion (GateFits l.c.qubits) l.gates.items
