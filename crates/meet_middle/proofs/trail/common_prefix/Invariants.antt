use Rattle.std.proofs.Common.{◌≡◌, length, take}
use Rattle.meet_middle.proofs.trail.common_prefix.Given as goal

abbrev pub invariant-loop-i : goal.invariant-loop-i
invariant-loop-i l = record {
  qubits : l.alike.qubits ≡ l.v.qubits;
  long : length l.alike.letters ≡ l.i;
  first : l.alike.letters ≡ take l.i l.v.letters;
  second : l.alike.letters ≡ take l.i l.w.letters;
}
