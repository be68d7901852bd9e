use Rattle.std.proofs.Common.{◌≡◌, ◌++◌, ◌∷◌, ◌≤◌, length, drop}
use Rattle.level_store.proofs.partner.with_first.Given as goal

abbrev pub invariant-loop-i : goal.invariant-loop-i
invariant-loop-i l = record {
  within : l.i ≤ length l.word.letters;
  qubits : l.replaced.qubits ≡ l.word.qubits;
  letters : l.replaced.letters ++ drop l.i l.word.letters ≡ l.fn.letter.code ∷ drop 1 l.word.letters;
}
