use Rattle.std.proofs.Common.{◌≡◌}
use Rattle.work_shares.specs.Shares.{place_of, share_left}
use Rattle.work_shares.proofs.tests.finish.Given as goal

abbrev pub invariant-loop-block : goal.invariant-loop-block
invariant-loop-block l = place_of l.share ≡ place_of l.fn.share

abbrev pub decreases-loop-block : goal.decreases-loop-block
decreases-loop-block l = share_left l.share
