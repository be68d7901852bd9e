use Rattle.work_shares.proofs.Turns.{forks}
use Rattle.work_shares.proofs.deque.lend.Goals as goal

pub another-requires : goal.another-requires
another-requires c = forks _ _ c.requires.parts c.requires.fresh
