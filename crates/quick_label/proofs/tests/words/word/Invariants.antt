use Rattle.std.proofs.Common.{◌≡◌}
use Rattle.quick_label.proofs.tests.words.word.Given as goal

abbrev pub invariant-loop-code : goal.invariant-loop-code
invariant-loop-code l = l.w.qubits ≡ l.n
