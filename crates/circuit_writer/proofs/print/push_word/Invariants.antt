use Rattle.std.proofs.Common.{◌≡◌, ◌++◌, take}
use Rattle.std.specs.Prelude.{string_bytes}
use Rattle.circuit_writer.specs.Shown.{letter_texts, word_text}
use Rattle.circuit_writer.proofs.print.push_word.Given as goal

abbrev pub invariant-loop-letter : goal.invariant-loop-letter
invariant-loop-letter l = string_bytes l.out ≡ string_bytes l.initial.out ++ word_text (letter_texts (take l.letter-index l.word))
