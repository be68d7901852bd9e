use Rattle.work_shares.proofs.Turns.{learns}
use Rattle.work_shares.proofs.deque.learn.Goals as goal

pub len_as-requires : goal.len_as-requires
len_as-requires c = learns _ _ c.requires
