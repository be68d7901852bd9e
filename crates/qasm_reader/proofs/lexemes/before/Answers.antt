use Rattle.std.proofs.Common.{sym, ◌∙◌, not}
use Rattle.qasm_reader.specs.Lexemes.{Lexeme, is_kind}
use Rattle.qasm_reader.specs.View.{lexeme}
use Rattle.qasm_reader.proofs.Splits.{prefix_len-map}
use Rattle.qasm_reader.proofs.lexemes.before.Goals as goal

pub returns-clause-value : goal.returns-clause-value
returns-clause-value c = c.others.ensures.value ∙ sym (prefix_len-map (λ (w : Lexeme). not (is_kind c.args.kind w)) lexeme c.args.ws.now)
