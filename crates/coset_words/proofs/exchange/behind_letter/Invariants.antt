use Rattle.std.proofs.Common.{◌≡◌, ◌++◌, drop}
use Rattle.coset_words.proofs.Fronts.{AllCommute}
use Rattle.coset_words.proofs.exchange.behind_letter.Given as goal

abbrev pub invariant-loop-i : goal.invariant-loop-i
invariant-loop-i l = record {
  qubits : l.before.qubits ≡ l.word.qubits;
  letters : l.before.letters ++ drop l.i l.word.letters ≡ l.word.letters;
  commuting : AllCommute l.word.qubits l.p.code l.before.letters;
}
