use Rattle.std.proofs.Common.{◌≡◌}
use Rattle.quick_label.proofs.tests.marks.look_at_table.Given as goal

abbrev pub invariant-loop-row : goal.invariant-loop-row
invariant-loop-row l = record {
  suffix : l.suffix.qubits ≡ l.n;
  label : l.label.qubits ≡ l.n;
}
