use Rattle.std.proofs.Common.{◌∙◌, sym, arith}
use Rattle.channel_rep.proofs.TwoLists.{cell, same_cells}
use Rattle.channel_rep.proofs.parts.split.Goals as goal

pub returns : goal.returns
returns c =
    same_cells c.loop-k.a c.loop-k.b c.args.cells.now (c.loop-k.auto.a ∙ c.requires.whole) (c.loop-k.auto.b ∙ c.requires.root)
    (λ k l i. cell (sym (c.loop-k.invariant.whole k (omega arith)) i) (sym (c.loop-k.invariant.root k (omega arith)) i))
