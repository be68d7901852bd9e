use Rattle.std.proofs.Common.{◌≡◌, ◌++◌, take}
use Rattle.std.specs.Prelude.{string_bytes}
use Rattle.circuit_writer.specs.Shown.{letter_texts, word_text}
use Rattle.tcount_top.proofs.bench.push_letters.Given as goal

abbrev pub invariant-loop-letter : goal.invariant-loop-letter
invariant-loop-letter l = string_bytes l.line ≡ string_bytes l.initial.line ++ word_text (letter_texts (take l.letter-index l.letters))
