use Rattle.std.proofs.Common.{◌<◌, ◌^◌, ap, sym, ◌∙◌, subst}
use Rattle.tc_ring.specs.Surds.{SurdWithin}
use Rattle.channel_rep.specs.Cells.{ChannelGrid, entries, table_of}
use Rattle.channel_rep.specs.Norms.{HasNorm}
use Rattle.channel_rep.specs.Parts.{cells_of}
use Rattle.channel_rep.proofs.Grids.{grid_norm}
use Rattle.channel_rep.proofs.NarrowGrids.{narrow_within}
use Rattle.channel_rep.proofs.narrow.Narrow.cell.Goals as goal

pub returns-clause-norm : goal.returns-clause-norm
returns-clause-norm c = subst (λ (g : ChannelGrid). HasNorm (4 ^ g.qubits) g.exponent (table_of g)) c.self.view_is (grid_norm _ c.self.invariant.grid.channel)

pub returns-clause-small : goal.returns-clause-small
returns-clause-small c =
    let qubits = ap (λ (g : ChannelGrid). 4 ^ g.qubits) (sym c.self.view_is) in
    subst (SurdWithin (2 ^ 14)) (sym (c.parts_at.ensures ∙ (λ i. entries (c.codes.ensures i) (cells_of (c.deref.ensures.value i) (c.deref-2.ensures.value i)) c.args.row c.args.col)))
    (narrow_within c.self.inside.n c.self.inside.k _ _ c.self.invariant c.args.row c.args.col (subst (λ size. c.args.row < size) qubits c.requires.row) (subst (λ size. c.args.col < size) qubits c.requires.col))
