use Rattle.std.proofs.Common.{◌≡◌, ◌+◌, length, drop}
use Rattle.channel_rep.specs.Cells.{scaled}
use Rattle.channel_rep.specs.Tables.{IsBuiltOf}
use Rattle.coset_label.specs.Words.{word_steps}
use Rattle.coset_label.proofs.scratch.narrow_of_word.Given as goal

abbrev pub invariant-loop-left : goal.invariant-loop-left
invariant-loop-left l = record {
  qubits : l.narrow.qubits ≡ l.fn.narrow.qubits;
  exponent : l.narrow.exponent + l.left ≡ length l.word.letters;
  built : IsBuiltOf l.fn.narrow.qubits (word_steps (drop l.left l.word.letters)) (scaled l.narrow);
}

abbrev pub decreases-loop-left : goal.decreases-loop-left
decreases-loop-left l = l.left
