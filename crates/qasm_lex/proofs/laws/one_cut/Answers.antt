use Rattle.qasm_lex.proofs.Cutting.{tokens_unique, bad_unique, never_both, tokens_or_bad}
use Rattle.qasm_lex.proofs.laws.one_cut.Goals as goal

pub returns : goal.returns
returns c = record { some = tokens_or_bad; tokens = tokens_unique; bad = bad_unique; never_both = never_both }
