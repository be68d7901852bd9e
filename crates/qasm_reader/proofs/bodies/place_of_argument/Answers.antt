use Rattle.std.proofs.Common.{◌∙◌, arith}
use Rattle.qasm_reader.specs.State.{place_among}
use Rattle.qasm_reader.specs.View.{name_list}
use Rattle.qasm_reader.proofs.Written.{argument_at}
use Rattle.qasm_reader.proofs.bodies.place_of_argument.Goals as goal

pub returns-then-number-args : goal.returns-then-number-args
returns-then-number-args c = c.place_among.ensures ∙ argument_at (place_among (name_list c.args.list.now)) c.args.args.now c.args.number _ (omega (arith, c.if-number-args.true))
