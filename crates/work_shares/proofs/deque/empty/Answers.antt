use Rattle.work_shares.proofs.Turns.{begins}
use Rattle.work_shares.proofs.deque.empty.Goals as goal

pub fifo_as-requires : goal.fifo_as-requires
fifo_as-requires c = begins
