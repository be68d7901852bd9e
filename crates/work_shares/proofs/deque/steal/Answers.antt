use Rattle.work_shares.proofs.Turns.{takes}
use Rattle.work_shares.proofs.deque.steal.Goals as goal

pub steal_as-requires-clause-takes : goal.steal_as-requires-clause-takes
steal_as-requires-clause-takes c = takes _ _ c.requires.marks
