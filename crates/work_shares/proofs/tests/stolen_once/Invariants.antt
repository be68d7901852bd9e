use Rattle.work_shares.specs.Shares.{share_left}
use Rattle.work_shares.proofs.tests.stolen_once.Given as goal

abbrev pub decreases-loop-block : goal.decreases-loop-block
decreases-loop-block g l = share_left l.share
