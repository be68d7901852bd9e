use Rattle.std.proofs.Common.{◌≡◌, ◌++◌, ◌≤◌, length, drop}
use Rattle.coset_words.proofs.exchange.followed_by.Given as goal

abbrev pub invariant-loop-i : goal.invariant-loop-i
invariant-loop-i l = record {
  within : l.i ≤ length l.word.letters;
  qubits : l.joined.qubits ≡ l.word.qubits;
  letters : l.joined.letters ++ drop l.i l.word.letters ≡ l.fn.front.letters ++ drop l.from l.word.letters;
}
