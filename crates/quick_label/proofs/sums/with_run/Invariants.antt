use Rattle.std.proofs.Common.{◌≡◌, ◌<◌, ◌≤◌}
use Rattle.quick_label.specs.Sums.{IsSumWithRun}
use Rattle.quick_label.proofs.sums.with_run.Given as goal

abbrev pub invariant-loop-k : goal.invariant-loop-k
invariant-loop-k l = record {
  from : l.start ≤ l.k;
  stays : l.end < l.start → l.k ≡ l.start;
  fold : IsSumWithRun l.rows l.values l.start l.k l.fold l.initial.fold_sum l.fold_sum;
  high : IsSumWithRun l.rows l.values l.start l.k l.high l.initial.high_sum l.high_sum;
  low : IsSumWithRun l.rows l.values l.start l.k l.low l.initial.low_sum l.low_sum;
}
