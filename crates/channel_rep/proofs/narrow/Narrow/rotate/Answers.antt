use Rattle.std.proofs.Common.{◌≡◌, ℕ, List, ◌<◌, ◌^◌, ap, sym, ◌∙◌, subst, arith}
use Rattle.std.specs.Prelude.{ℤ}
use Rattle.std.specs.Vec.{with_items}
use Rattle.ring_laws.specs.Matrix.{product, Agree}
use Rattle.tc_ring.specs.Surds.{surds}
use Rattle.channel_rep.specs.Cells.{ChannelGrid, EntriesWithin, entries, table_of}
use Rattle.channel_rep.specs.Lanes.{most_small}
use Rattle.channel_rep.specs.Parts.{cells_of, most_narrow_exponent}
use Rattle.channel_rep.specs.Tables.{rotation_table}
use Rattle.channel_rep.proofs.NarrowGrids.{narrow_small, rotation_back}
use Rattle.channel_rep.proofs.narrow.Narrow.rotate.Goals as goal

pub rotate_parts-requires-clause-small : goal.rotate_parts-requires-clause-small
rotate_parts-requires-clause-small c =
    let qubits : c.args.p.now.qubits ≡ c.self.inside.n = c.requires.same ∙ sym (ap (λ (g : ChannelGrid). g.qubits) c.self.view_is) in
    let room : c.self.inside.k < most_narrow_exponent = omega (arith, ap (λ (g : ChannelGrid). g.exponent) c.self.view_is) in
    subst (λ (z : ℕ × (List ℤ × List ℤ)). EntriesWithin most_small (4 ^ z.0) (cells_of z.1.0 z.1.1)) (λ i. (sym qubits i, (sym c.deref_mut.ensures.value i, sym c.deref_mut-2.ensures.value i)))
    (narrow_small c.self.inside.n c.self.inside.k _ _ c.self.invariant room)

pub invariant_of-self : goal.invariant_of-self
invariant_of-self c =
    let room : c.self.inside.k < most_narrow_exponent = omega (arith, ap (λ (g : ChannelGrid). g.exponent) c.self.view_is) in
    let done = rotation_back c.self.inside.n c.args.p.now.qubits c.self.inside.k _ _ c.self.inside.a.items c.self.inside.b.items c.deref_mut.result.now c.deref_mut-2.result.now c.rotate_parts.new.a c.rotate_parts.new.b c.args.inverse
    c.args.p.now.code c.self.invariant (c.requires.same ∙ sym (ap (λ (g : ChannelGrid). g.qubits) c.self.view_is)) c.rotate_parts.ensures.code c.requires.other room c.deref_mut.ensures.value c.deref_mut-2.ensures.value c.deref_mut.ensures.len
    c.deref_mut-2.ensures.len c.rotate_parts.auto.a c.rotate_parts.auto.b c.rotate_parts.ensures.rows in
    done.valid

pub returns-clause-table : goal.returns-clause-table
returns-clause-table c =
    let room : c.self.inside.k < most_narrow_exponent = omega (arith, ap (λ (g : ChannelGrid). g.exponent) c.self.view_is) in
    let done = rotation_back c.self.inside.n c.args.p.now.qubits c.self.inside.k _ _ c.self.inside.a.items c.self.inside.b.items c.deref_mut.result.now c.deref_mut-2.result.now c.rotate_parts.new.a c.rotate_parts.new.b c.args.inverse
    c.args.p.now.code c.self.invariant (c.requires.same ∙ sym (ap (λ (g : ChannelGrid). g.qubits) c.self.view_is)) c.rotate_parts.ensures.code c.requires.other room c.deref_mut.ensures.value c.deref_mut-2.ensures.value c.deref_mut.ensures.len
    c.deref_mut-2.ensures.len c.rotate_parts.auto.a c.rotate_parts.auto.b c.rotate_parts.ensures.rows in
    let new = cells_of (with_items c.self.inside.a c.rotate_parts.new.a).items (with_items c.self.inside.b c.rotate_parts.new.b).items in
    subst (λ (g : ChannelGrid). Agree surds (4 ^ g.qubits) (entries (4 ^ c.self.inside.n) new) (product surds (4 ^ g.qubits) (rotation_table g.qubits c.args.inverse c.args.p.now.code) (table_of g))) c.self.view_is done.table
