use Rattle.std.proofs.Common.{sym, subst}
use Rattle.std.specs.Prelude.{All}
use Rattle.qasm_lex.specs.Tokens.{IsWithin}
use Rattle.qasm_lex.proofs.Spans.{within}
use Rattle.qasm_angle.proofs.tests.value_of.Goals as goal

pub angle-requires : goal.angle-requires
angle-requires c = subst (All (IsWithin c.args.text.now)) (sym c.deref.ensures.value) (within c.args.text.now 0 c.in-Ok.tokens.items c.in-Ok.ensures.spans)
