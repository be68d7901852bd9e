use Rattle.std.proofs.Common.{arith}
use Rattle.quick_label.proofs.RunSums.{column_more}
use Rattle.quick_label.proofs.sums.weigh_columns.Goals as goal

pub loop-column-preserved : goal.loop-column-preserved
loop-column-preserved c =
    let column = c.loop-column.column in
    let columns = c.args.columns.now in
    record {
      folds = column_more column columns c.args.fold.now c.loop-column.folds _ (omega arith) c.weigh_column-sums.ensures.fold c.loop-column.invariant.folds;
      highs = column_more column columns c.args.high.now c.loop-column.highs _ (omega arith) c.weigh_column-sums.ensures.high c.loop-column.invariant.highs;
      lows = column_more column columns c.args.low.now c.loop-column.lows _ (omega arith) c.weigh_column-sums.ensures.low c.loop-column.invariant.lows;
    }

pub returns-clause-folds : goal.returns-clause-folds
returns-clause-folds c size w m held are column l = c.loop-column.invariant.folds column (omega (arith, held.as_many)) size w m held are l

pub returns-clause-highs : goal.returns-clause-highs
returns-clause-highs c size w m held are column l = c.loop-column.invariant.highs column (omega (arith, held.as_many)) size w m held are l

pub returns-clause-lows : goal.returns-clause-lows
returns-clause-lows c size w m held are column l = c.loop-column.invariant.lows column (omega (arith, held.as_many)) size w m held are l
