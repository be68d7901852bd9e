use Rattle.std.proofs.Common.{◌∙◌, ap}
use Rattle.qasm_lex.specs.declared.token.Kind.{Kind}
use Rattle.qasm_reader.specs.Lexemes.{is_kind}
use Rattle.qasm_reader.specs.View.{lexeme}
use Rattle.qasm_reader.proofs.Lookups.{code_ends}
use Rattle.qasm_reader.proofs.rows.ends.Goals as goal

pub returns-in-Some : goal.returns-in-Some
returns-in-Some c =
    c.is_kind.ensures ∙ ap (λ (k : Kind). is_kind k (lexeme c.in-Some.last.now)) c.closer.ensures
    ∙ code_ends c.args.statement.now c.in-Some.field-0-1.now c.in-Some.last.now _ c.in-Some.ensures.cases.0
