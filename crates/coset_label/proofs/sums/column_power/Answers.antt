use Rattle.std.proofs.Common.{◌∙◌, arith}
use Rattle.coset_label.proofs.ColumnSums.{power_step, power_done}
use Rattle.coset_label.proofs.sums.column_power.Goals as goal

pub loop-preserved : goal.loop-preserved
loop-preserved c = power_step c.loop.power c.loop.counter c.loop.invariant

pub returns : goal.returns
returns c = c.loop.invariant ∙ power_done c.args.n c.loop.counter (omega arith)
