use Rattle.std.proofs.Common.{◌≡◌}
use Rattle.quick_label.proofs.tests.marks.look_before_words.Given as goal

abbrev pub invariant-loop-number : goal.invariant-loop-number
invariant-loop-number l = record {
  suffix : l.suffix.qubits ≡ l.n;
  label : l.label.qubits ≡ l.n;
}
