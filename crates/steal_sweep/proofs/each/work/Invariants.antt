use Rattle.std.proofs.Common.{◌≡◌}
use Rattle.work_shares.specs.Shares.{place_of, noted_by, share_left}
use Rattle.steal_sweep.specs.Positions.{positions_in}
use Rattle.steal_sweep.proofs.each.work.Given as goal

abbrev pub invariant-loop-block : goal.invariant-loop-block
invariant-loop-block g l = record {
  place : place_of l.share ≡ place_of l.fn.share;
  stands : g.J.Job.stands l.job l.share.load (positions_in (noted_by l.share));
  name : g.J.Job.name l.job l.share.load ≡ g.J.Job.name l.job l.fn.share.load;
}

abbrev pub decreases-loop-block : goal.decreases-loop-block
decreases-loop-block g l = share_left l.share
