use Rattle.std.proofs.Common.{◌∙◌, List, Some, map, ap, sym, true}
use Rattle.qasm_reader.specs.declared.lexemes.Lexeme.{Lexeme as CodeLexeme}
use Rattle.qasm_reader.specs.Forms.{shape, Rotation}
use Rattle.qasm_reader.specs.View.{lexemes}
use Rattle.qasm_reader.proofs.Rotations.{no_rotation, some_rotation}
use Rattle.qasm_reader.proofs.forms.rotation_of.Goals as goal

pub returns-then-not-is_angle : goal.returns-then-not-is_angle
returns-then-not-is_angle c =
    sym (no_rotation c.args.name.now (lexemes c.args.ws.now) c.value_of-value.result c.value_of-value.ensures (sym c.is_angle.ensures ∙ c.if-not-is_angle.true))

pub returns : goal.returns
returns c =
    let made : List CodeLexeme → Rotation = λ l. record { name = c.args.name.now; angle = map shape (lexemes l); value = c.value_of-value.result } in
    ap (λ (l : List CodeLexeme). Some (made l)) c.in_ok-angle.ensures
    ∙ sym (some_rotation c.args.name.now (lexemes c.args.ws.now) c.value_of-value.result (sym c.is_rotation.ensures ∙ c.if-not-is_rotation.false) c.value_of-value.ensures (sym c.is_angle.ensures ∙ c.if-not-is_angle.false))
