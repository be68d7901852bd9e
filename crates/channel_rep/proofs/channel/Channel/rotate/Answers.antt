use Rattle.std.proofs.Common.{◌<◌, ◌^◌, ap, sym, ◌∙◌, subst, arith}
use Rattle.std.specs.Vec.{with_items}
use Rattle.ring_laws.specs.Matrix.{product, Agree}
use Rattle.tc_ring.specs.Surds.{surds}
use Rattle.channel_rep.specs.Cells.{ChannelGrid, most_exponent, EntriesWithin, entries, table_of}
use Rattle.channel_rep.specs.Tables.{rotation_table}
use Rattle.channel_rep.proofs.Grids.{grid_within, rotation_done_at}
use Rattle.channel_rep.proofs.channel.Channel.rotate.Goals as goal

pub rotate_rows-requires-clause-small : goal.rotate_rows-requires-clause-small
rotate_rows-requires-clause-small c =
    subst (λ n. EntriesWithin (2 ^ 61) (4 ^ n) c.deref_mut.result.now) (sym (c.requires.same ∙ sym (ap (λ (g : ChannelGrid). g.qubits) c.self.view_is)))
    (grid_within c.self.inside.n c.self.inside.k 61 _ _ (omega arith) c.deref_mut.ensures.value c.self.invariant)

pub invariant_of-self : goal.invariant_of-self
invariant_of-self c =
    let room : c.self.inside.k < most_exponent = omega (arith, ap (λ (g : ChannelGrid). g.exponent) c.self.view_is) in
    let done = rotation_done_at c.self.inside.n c.args.p.now.qubits c.self.inside.k _ c.self.inside.cells.items c.deref_mut.result.now c.rotate_rows.new.cells c.args.inverse c.args.p.now.code
    (c.requires.same ∙ sym (ap (λ (g : ChannelGrid). g.qubits) c.self.view_is)) c.rotate_rows.ensures.code c.requires.other room c.self.invariant c.deref_mut.ensures.value c.deref_mut.ensures.len c.rotate_rows.ensures.whole c.rotate_rows.ensures.rows in
    done.valid

pub returns-clause-table : goal.returns-clause-table
returns-clause-table c =
    let room : c.self.inside.k < most_exponent = omega (arith, ap (λ (g : ChannelGrid). g.exponent) c.self.view_is) in
    let done = rotation_done_at c.self.inside.n c.args.p.now.qubits c.self.inside.k _ c.self.inside.cells.items c.deref_mut.result.now c.rotate_rows.new.cells c.args.inverse c.args.p.now.code
    (c.requires.same ∙ sym (ap (λ (g : ChannelGrid). g.qubits) c.self.view_is)) c.rotate_rows.ensures.code c.requires.other room c.self.invariant c.deref_mut.ensures.value c.deref_mut.ensures.len c.rotate_rows.ensures.whole c.rotate_rows.ensures.rows in
    subst (λ (g : ChannelGrid). Agree surds (4 ^ g.qubits) (entries (4 ^ c.self.inside.n) (with_items c.self.inside.cells c.rotate_rows.new.cells).items) (product surds (4 ^ g.qubits) (rotation_table g.qubits c.args.inverse c.args.p.now.code) (table_of g)))
    c.self.view_is done.table
