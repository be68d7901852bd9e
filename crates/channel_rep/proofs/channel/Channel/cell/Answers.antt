use Rattle.std.proofs.Common.{◌<◌, ◌^◌, ap, sym, ◌∙◌, subst, arith}
use Rattle.tc_ring.specs.Surds.{SurdWithin}
use Rattle.channel_rep.specs.Cells.{ChannelGrid, entries, table_of}
use Rattle.channel_rep.specs.Norms.{HasNorm}
use Rattle.channel_rep.proofs.Grids.{grid_norm, grid_within}
use Rattle.channel_rep.proofs.channel.Channel.cell.Goals as goal

pub returns-clause-small : goal.returns-clause-small
returns-clause-small c =
    let qubits = ap (λ (g : ChannelGrid). 4 ^ g.qubits) (sym c.self.view_is) in
    subst (SurdWithin (2 ^ 60)) (sym (c.cell_at.ensures ∙ ap (λ size. entries size c.deref.result.now c.args.row c.args.col) c.codes.ensures))
    (grid_within c.self.inside.n c.self.inside.k 60 _ _ (omega arith) c.deref.ensures.value c.self.invariant c.args.row c.args.col
    (subst (λ size. c.args.row < size) qubits c.requires.row) (subst (λ size. c.args.col < size) qubits c.requires.col))

pub returns-clause-norm : goal.returns-clause-norm
returns-clause-norm c = subst (λ (g : ChannelGrid). HasNorm (4 ^ g.qubits) g.exponent (table_of g)) c.self.view_is (grid_norm _ c.self.invariant)
