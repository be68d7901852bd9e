use Rattle.std.proofs.Common.{◌≡◌}
use Rattle.coset_words.proofs.tests.word.Given as goal

abbrev pub invariant-loop-code : goal.invariant-loop-code
invariant-loop-code l = l.w.qubits ≡ l.n
