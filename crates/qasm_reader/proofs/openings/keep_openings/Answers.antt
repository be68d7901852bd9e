use Rattle.std.proofs.Common.{rules, ap, ◌∙◌}
use Rattle.std.proofs.lemmas.Fn.{filter_same}
use Rattle.std.specs.Prelude.{codes}
use Rattle.qasm_reader.specs.Lexemes.{is_ident}
use Rattle.qasm_reader.specs.View.{lexeme, lexemes}
use Rattle.qasm_reader.proofs.Halving.{filter-map}
use Rattle.qasm_reader.proofs.openings.keep_openings.Goals as goal

pub returns : goal.returns
returns c =
    ap lexemes (filter_same _ (λ w. is_ident (codes "OPENQASM") (lexeme w)) _ (λ x b f' k. search rules) _ _ c.retain.ensures.filtered)
    ∙ filter-map lexeme (is_ident (codes "OPENQASM")) c.args.list.now.items
