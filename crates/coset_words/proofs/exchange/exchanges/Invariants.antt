use Rattle.std.proofs.Common.{◌≡◌, ◌+◌, ◌++◌, length, take}
use Rattle.coset_label.specs.Cosets.{SameCosetWords}
use Rattle.coset_words.proofs.exchange.exchanges.Given as goal

abbrev pub invariant-loop-i : goal.invariant-loop-i
invariant-loop-i l = record {
  qubits : l.rest.qubits ≡ l.v.qubits;
  len : length l.rest.letters + l.i ≡ length l.v.letters;
  coset : SameCosetWords l.v.qubits (take l.i l.v.letters ++ l.rest.letters) l.fn.w.letters;
}
