use Rattle.std.proofs.Common.{◌≡◌, ◌≢◌, All, take}
use Rattle.meet_middle.specs.Halves.{spelled}
use Rattle.tcount_top.specs.Printed.{codes_of}
use Rattle.tcount_top.proofs.print.letters_of.Given as goal

abbrev pub invariant-loop-i : goal.invariant-loop-i
invariant-loop-i l = record {
  qubits : All (λ p. p.qubits ≡ l.word.first.qubits) l.letters.items;
  other : All (λ p. p.code ≢ 0) l.letters.items;
  codes : codes_of l.letters.items ≡ take l.i (spelled l.word.first.letters l.word.middle l.word.last.letters);
}
