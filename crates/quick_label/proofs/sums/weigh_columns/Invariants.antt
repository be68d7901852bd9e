use Rattle.quick_label.proofs.RunSums.{AreSumsOfFirst}
use Rattle.quick_label.proofs.sums.weigh_columns.Given as goal

abbrev pub invariant-loop-column : goal.invariant-loop-column
invariant-loop-column l = record {
  folds : AreSumsOfFirst l.column l.columns l.fold l.folds;
  highs : AreSumsOfFirst l.column l.columns l.high l.highs;
  lows : AreSumsOfFirst l.column l.columns l.low l.lows;
}
