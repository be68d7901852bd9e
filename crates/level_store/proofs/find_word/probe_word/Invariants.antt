use Rattle.std.proofs.Common.{◌≡◌}
use Rattle.coset_label.specs.Cosets.{SameCosetWords}
use Rattle.level_store.specs.Probes.{IsPassed}
use Rattle.level_store.proofs.find_word.probe_word.Given as goal

abbrev pub invariant-loop-steps : goal.invariant-loop-steps
invariant-loop-steps l = record {
  room : l.room.qubits ≡ l.fn.room.qubits;
  passed : IsPassed l.shape (SameCosetWords l.shape.qubits l.word.letters) l.words l.tag l.steps;
}
