use Rattle.work_shares.proofs.Turns.{merges}
use Rattle.work_shares.proofs.deque.take_back.Goals as goal

pub absorb-requires-clause-rule : goal.absorb-requires-clause-rule
absorb-requires-clause-rule c = merges _ _ _ _ c.requires.1
