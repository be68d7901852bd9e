use Rattle.std.proofs.Common.{arith}
use Rattle.channel_rep.proofs.TwoLists.{halved}
use Rattle.channel_rep.proofs.parts.halve.Goals as goal

pub returns : goal.returns
returns c = λ k l.
    halved c.args.a.now c.args.b.now c.loop-k.a c.loop-k.b k l c.requires.same c.loop-k.auto.a c.loop-k.auto.b (c.loop-k.invariant.whole k (omega arith)) (c.loop-k.invariant.root k (omega arith))
