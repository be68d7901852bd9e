use Rattle.std.proofs.Common.{◌≡◌, ◌∙◌, List, Option, ap, sym, subst}
use Rattle.qasm_reader.specs.declared.statements.Statement.{Statement as CodeStatement}
use Rattle.qasm_reader.specs.Lexemes.{Lexeme}
use Rattle.qasm_reader.specs.Forms.{Form, HasForm}
use Rattle.qasm_reader.specs.Parse.{form_of}
use Rattle.qasm_reader.specs.View.{lexemes, form, statement_of, state}
use Rattle.std.specs.Prelude.{option_map}
use Rattle.qasm_reader.proofs.Grammar.{has_form}
use Rattle.qasm_reader.proofs.Registers.{inside_is}
use Rattle.qasm_reader.proofs.Kept.{kept_sound}
use Rattle.qasm_reader.proofs.Takeable.{short_before, takeable}
use Rattle.qasm_reader.proofs.reading.take_statement.Goals as goal

-- a statement has the form that is computed from its lexemes
has : (p : CodeStatement) (ws : List Lexeme) → lexemes p.lexemes.now ≡ ws → option_map form p.form ≡ form_of ws → HasForm (lexemes p.lexemes.now) (option_map form p.form)
has p ws same found = subst (λ (o : Option Form). HasForm (lexemes p.lexemes.now) o) (sym (found ∙ ap form_of (sym same))) (has_form (lexemes p.lexemes.now))

pub with_statement-requires-clause-fits : goal.with_statement-requires-clause-fits
with_statement-requires-clause-fits c =
    let p = c.in_ok-statement.statement in
    takeable (state c.args.scan) (lexemes p.lexemes.now) (option_map form p.form) (has p (lexemes c.args.ws.now) (ap lexemes c.in_ok-statement.ensures.lexemes) c.in_ok-statement.ensures.form)
    (inside_is c.args.scan.qubits c.args.scan.registers.items c.args.scan.inside) c.args.scan.few (kept_sound c.args.scan.definitions.list.items c.requires.kept.list) (sym c.first_row.ensures ∙ c.in_default.is)

pub with_statement-requires-clause-short : goal.with_statement-requires-clause-short
with_statement-requires-clause-short c = short_before (state c.args.scan) (statement_of c.in_ok-statement.statement) (sym c.first_row.ensures ∙ c.in_default.is)
