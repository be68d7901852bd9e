use Rattle.std.proofs.Common.{◌∙◌, sym, subst, ap, arith}
use Rattle.std.specs.Prelude.{All}
use Rattle.qasm_lex.specs.Tokens.{IsWithin}
use Rattle.qasm_reader.specs.View.{lexemes}
use Rattle.qasm_reader.specs.Halves.{openings}
use Rattle.qasm_reader.proofs.Halving.{opening_begins}
use Rattle.qasm_lex.proofs.Spans.{within}
use Rattle.qasm_reader.proofs.openings.halves.Goals as goal

pub lexemes_of-requires : goal.lexemes_of-requires
lexemes_of-requires c = subst (All (IsWithin c.args.text.now)) (sym c.deref.ensures.value) (within c.args.text.now 0 c.in_ok-tokens.tokens.items c.in_ok-tokens.ensures.spans)

pub returns-in-len2-clause-within : goal.returns-in-len2-clause-within
returns-in-len2-clause-within c =
    opening_begins c.args.text.now c.deref.result.now c.as_slice.result.now 1 _ (subst (All (IsWithin c.args.text.now)) (sym c.deref.ensures.value) (within c.args.text.now 0 c.in_ok-tokens.tokens.items c.in_ok-tokens.ensures.spans))
    (ap lexemes c.as_slice.ensures.value ∙ c.keep_openings.ensures ∙ ap openings c.in_ok-list.ensures) (omega arith)
