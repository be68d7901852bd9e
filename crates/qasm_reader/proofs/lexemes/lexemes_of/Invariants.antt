use Rattle.std.proofs.Common.{◌≡◌, map, take}
use Rattle.qasm_reader.specs.Lexemes.{lexeme_of}
use Rattle.qasm_reader.specs.View.{lexemes}
use Rattle.qasm_reader.proofs.lexemes.lexemes_of.Given as goal

abbrev pub invariant-loop-token : goal.invariant-loop-token
invariant-loop-token l = lexemes l.lexemes.items ≡ map (lexeme_of l.text) (take l.token-index l.tokens)
