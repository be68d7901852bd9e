use Rattle.std.proofs.Common.{◌^◌, subst}
use Rattle.channel_rep.specs.Cells.{ChannelGrid, table_of}
use Rattle.channel_rep.specs.Norms.{HasNorm}
use Rattle.channel_rep.proofs.Grids.{grid_norm}
use Rattle.channel_rep.proofs.Lines.{row_read, row_within}
use Rattle.channel_rep.proofs.channel.Channel.row.Goals as goal

pub returns-clause-cells : goal.returns-clause-cells
returns-clause-cells c =
    row_read c.self.inside.n c.self.inside.k c.codes-size.result c.args.row c.self.inside.cells.items c.deref.result.now c.args.self.now c.self.view_is c.self.invariant c.codes-size.ensures
    c.deref.ensures.value c.requires

pub returns-clause-small : goal.returns-clause-small
returns-clause-small c =
    row_within c.self.inside.n c.self.inside.k c.codes-size.result c.args.row c.self.inside.cells.items c.deref.result.now c.args.self.now c.self.view_is c.self.invariant c.codes-size.ensures
    c.deref.ensures.value c.requires

pub returns-clause-norm : goal.returns-clause-norm
returns-clause-norm c = subst (λ (g : ChannelGrid). HasNorm (4 ^ g.qubits) g.exponent (table_of g)) c.self.view_is (grid_norm _ c.self.invariant)
