use Rattle.std.proofs.Common.{arith}
use Rattle.channel_rep.specs.Cells.{table_of}
use Rattle.coset_label.proofs.ColumnSums.{column_sum-more}
use Rattle.coset_label.proofs.sums.add_rows.Goals as goal

pub loop-row-preserved : goal.loop-row-preserved
loop-row-preserved c = λ k l. column_sum-more (λ r. table_of c.args.channel.now r k) c.loop-row.row _ _ _ (c.row.ensures.cells k (omega arith)) (c.loop-row.invariant k l) (c.add_row.ensures k (omega arith))
