use Rattle.std.proofs.Common.{◌≡◌}
use Rattle.quick_label.proofs.tests.marks.look_before.Given as goal

abbrev pub invariant-loop-code : goal.invariant-loop-code
invariant-loop-code l = record {
  word : l.suffix ≡ l.w;
  label : l.label.qubits ≡ l.w.qubits;
}
