use Rattle.std.proofs.Common.{arith}
use Rattle.qasm_reader.proofs.Cut.{len_up_to_is}
use Rattle.qasm_reader.proofs.reading.len_up_to.Goals as goal

pub returns-then-n-tokens-clause-value : goal.returns-then-n-tokens-clause-value
returns-then-n-tokens-clause-value c = omega (arith, (len_up_to_is c.args.kind c.args.tokens.now).0, c.len_before-n.ensures.value)

pub returns-else-n-tokens-clause-value : goal.returns-else-n-tokens-clause-value
returns-else-n-tokens-clause-value c = omega (arith, (len_up_to_is c.args.kind c.args.tokens.now).1, c.len_before-n.ensures.value)
