use Rattle.std.proofs.Common.{◌∙◌, sym, arith}
use Rattle.channel_rep.proofs.TwoLists.{same_cells}
use Rattle.channel_rep.proofs.parts.join.Goals as goal

pub returns : goal.returns
returns c =
    let long = c.loop-k.auto.cells in
    sym (same_cells c.args.a.now c.args.b.now c.loop-k.cells (c.requires.whole ∙ sym long) (c.requires.root ∙ sym long) (λ k l. c.loop-k.invariant k (omega arith)))
