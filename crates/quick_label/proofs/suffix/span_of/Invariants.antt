use Rattle.std.proofs.Common.{◌≡◌, ◌^◌, ◌≤◌, length, drop}
use Rattle.quick_label.specs.Spans.{AreSpan}
use Rattle.quick_label.proofs.suffix.span_of.Given as goal

abbrev pub invariant-loop-left : goal.invariant-loop-left
invariant-loop-left l = record {
  left : l.left ≤ length l.word.letters;
  room : length l.room ≡ 4 ^ l.word.qubits;
  span : AreSpan l.word.qubits (drop l.left l.word.letters) l.span;
}

abbrev pub decreases-loop-left : goal.decreases-loop-left
decreases-loop-left l = l.left
