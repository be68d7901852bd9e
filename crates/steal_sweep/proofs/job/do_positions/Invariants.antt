use Rattle.std.proofs.Common.{◌≡◌, ℕ, ◌-◌, ◌≤◌, List, ◌++◌}
use Rattle.std.specs.List.{range_with_len}
use Rattle.steal_sweep.proofs.job.do_positions.Given as goal

abbrev pub invariant-loop-position : goal.invariant-loop-position
invariant-loop-position g l = record {
  from : l.fn.first ≤ l.position;
  name : g.J.Job.name l.job l.local ≡ g.J.Job.name l.job l.fn.local;
  stands : (done : List ℕ) → g.J.Job.stands l.job l.fn.local done → g.J.Job.stands l.job l.local (done ++ range_with_len l.fn.first (l.position - l.fn.first));
}
