use Rattle.std.proofs.Common.{◌∙◌, arith}
use Rattle.channel_rep.specs.Cells.{cell_of}
use Rattle.channel_rep.proofs.Signs.{signed-true, signed-false}
use Rattle.channel_rep.proofs.rows.negate_if.Goals as goal

pub returns-after-loop-cell : goal.returns-after-loop-cell
returns-after-loop-cell c = λ k l. c.loop-cell.invariant.done k (omega arith) ∙ signed-true c.args.negative (cell_of c.args.row.now k) c.if-negative.true

pub returns-else-negative : goal.returns-else-negative
returns-else-negative c = λ k l. signed-false c.args.negative (cell_of c.args.row.now k) c.if-negative.false
