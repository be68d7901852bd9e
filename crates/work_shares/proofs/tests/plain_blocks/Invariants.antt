use Rattle.std.proofs.Common.{◌-◌}
use Rattle.work_shares.proofs.tests.plain_blocks.Given as goal

abbrev pub decreases-loop-first : goal.decreases-loop-first
decreases-loop-first l = l.total - l.first
