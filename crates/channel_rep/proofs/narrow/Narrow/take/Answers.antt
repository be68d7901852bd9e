use Rattle.std.proofs.Common.{ℕ, List, ◌<◌, ◌^◌, length, sym, subst}
use Rattle.tc_ring.specs.Surds.{SurdWithin}
use Rattle.tc_ring.specs.declared.root2.Root2.{Root2}
use Rattle.channel_rep.specs.Cells.{cell_of}
use Rattle.channel_rep.proofs.NarrowGrids.{channel_within}
use Rattle.channel_rep.proofs.narrow.Narrow.take.Goals as goal

pub split-requires-clause-small : goal.split-requires-clause-small
split-requires-clause-small c =
    subst (λ (xs : List Root2). (k : ℕ) → k < length xs → SurdWithin (2 ^ 14) (cell_of xs k)) (sym c.cells.ensures.cells) (channel_within c.args.c.now c.cells.ensures.valid c.requires.low)
