use Rattle.std.proofs.Common.{arith}
use Rattle.work_shares.proofs.Turns.{takes, finds}
use Rattle.work_shares.proofs.deque.pop.Goals as goal

pub pop_as-requires-clause-fifo : goal.pop_as-requires-clause-fifo
pop_as-requires-clause-fifo c _ = takes _ _ c.requires.marks

pub pop_as-requires-clause-empty : goal.pop_as-requires-clause-empty
pop_as-requires-clause-empty c = let m = c.requires.marks in finds _ _ (omega (arith, m)) c.requires.left
