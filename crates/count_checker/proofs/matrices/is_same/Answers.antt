use Rattle.std.proofs.Common.{below_more}
use Rattle.count_checker.proofs.matrices.is_same.Goals as goal

pub loop-turns-preserved : goal.loop-turns-preserved
loop-turns-preserved c = below_more _ _ c.loop-turns.invariant (λ same. absurd (cc (c.is_same_up_to.ensures.1 same, c.if-is_same_up_to.false)))
