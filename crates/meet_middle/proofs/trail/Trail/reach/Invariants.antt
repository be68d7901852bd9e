use Rattle.std.proofs.Common.{◌≡◌, take}
use Rattle.meet_middle.proofs.trail.Trail.reach.Given as goal

abbrev pub invariant-loop-i : goal.invariant-loop-i
invariant-loop-i l = record {
  target : l.self.target ≡ l.fn.self.target;
  qubits : l.self.word.qubits ≡ l.fn.self.word.qubits;
  letters : l.self.word.letters ≡ take l.i l.word.letters;
}
