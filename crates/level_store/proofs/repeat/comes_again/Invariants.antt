use Rattle.std.proofs.Common.{◌↔◌, drop}
use Rattle.level_laws.specs.Levels.{ComesAgain}
use Rattle.level_store.proofs.repeat.comes_again.Given as goal

abbrev pub invariant-loop-i : goal.invariant-loop-i
invariant-loop-i l = ComesAgain l.word.qubits l.letter.code l.word.letters ↔ ComesAgain l.word.qubits l.letter.code (drop l.i l.word.letters)
