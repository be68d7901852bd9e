use Rattle.std.proofs.Common.{◌≡◌, ◌↔◌, drop}
use Rattle.channel_rep.specs.Cells.{scaled, IsReduced}
use Rattle.channel_rep.specs.Tables.{IsCircuitChannel}
use Rattle.coset_label.specs.Cosets.{SameCoset}
use Rattle.coset_label.specs.Words.{word_channel}
use Rattle.coset_words.proofs.comparison.lies_in_coset.Given as goal

abbrev pub invariant-loop-i : goal.invariant-loop-i
invariant-loop-i l = record {
  qubits : l.narrow.qubits ≡ l.word.qubits;
  reduced : IsReduced l.narrow;
  circuit : IsCircuitChannel l.word.qubits (scaled l.fn.narrow) → IsCircuitChannel l.word.qubits (scaled l.narrow);
  coset : SameCoset l.word.qubits (scaled l.fn.narrow) (word_channel l.word.qubits l.word.letters) ↔ SameCoset l.word.qubits (scaled l.narrow) (word_channel l.word.qubits (drop l.i l.word.letters));
}
