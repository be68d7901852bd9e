use Rattle.std.proofs.Common.{◌≡◌, ◌*◌, ◌^◌, length, ap, ◌∙◌, subst}
use Rattle.ring_laws.specs.Matrix.{identity, Agree}
use Rattle.tc_ring.specs.Surds.{surds}
use Rattle.channel_rep.specs.Cells.{entries}
use Rattle.channel_rep.specs.Parts.{cells_of, IsNarrow}
use Rattle.channel_rep.proofs.NarrowGrids.{narrow_identity, both_back}
use Rattle.channel_rep.proofs.narrow.Narrow.make_identity.Goals as goal

pub invariant_of-self : goal.invariant_of-self
invariant_of-self c =
    let n = c.self.inside.n in
    let valid = c.self.invariant in
    let made = c.write_identity in
    let whole : length made.new.a ≡ 4 ^ n * 4 ^ n = made.auto.a ∙ ap length c.deref_mut.ensures.value ∙ valid.whole_places in
    let root : length made.new.b ≡ 4 ^ n * 4 ^ n = made.auto.b ∙ ap length c.deref_mut-2.ensures.value ∙ valid.root_places in
    both_back (IsNarrow n 0) _ _ c.self.inside.a.items c.self.inside.b.items c.deref_mut.result.now c.deref_mut-2.result.now made.new.a made.new.b c.deref_mut.ensures.value c.deref_mut-2.ensures.value c.deref_mut.ensures.len c.deref_mut-2.ensures.len
    made.auto.a made.auto.b
    (narrow_identity n made.new.a made.new.b valid.grid.channel.some valid.grid.channel.few whole root (subst (λ size. Agree surds size (entries size (cells_of made.new.a made.new.b)) (identity surds)) c.codes.ensures made.ensures))
