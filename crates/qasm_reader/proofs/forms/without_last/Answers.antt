use Rattle.std.proofs.Common.{◌∷◌, [], ap, ◌∙◌, sym}
use Rattle.std.proofs.lemmas.List.{map-append}
use Rattle.qasm_reader.specs.View.{lexeme, lexemes}
use Rattle.qasm_reader.proofs.Grammar.{is_without_last, none_without_last}
use Rattle.qasm_reader.proofs.forms.without_last.Goals as goal

pub returns-then-is_kind : goal.returns-then-is_kind
returns-then-is_kind c =
    let b = c.in_ok-last.body.now in
    let w = c.in_ok-last.last.now in
    sym (is_without_last c.args.kind _ (lexemes b) (lexeme w) (ap lexemes c.in_ok-last.ensures.cases.0 ∙ map-append lexeme b (w ∷ [])) (sym c.is_kind.ensures ∙ c.if-is_kind.true))

pub returns-else-is_kind : goal.returns-else-is_kind
returns-else-is_kind c =
    let b = c.in_ok-last.body.now in
    let w = c.in_ok-last.last.now in
    sym (none_without_last c.args.kind _ (lexemes b) (lexeme w) (ap lexemes c.in_ok-last.ensures.cases.0 ∙ map-append lexeme b (w ∷ [])) (sym c.is_kind.ensures ∙ c.if-is_kind.false))
