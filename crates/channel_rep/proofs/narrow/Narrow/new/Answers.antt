use Rattle.std.proofs.Common.{◌≡◌, ◌*◌, ◌^◌, ℕ, length, ap, ◌∙◌, subst, arith}
use Rattle.ring_laws.specs.Matrix.{identity, Agree}
use Rattle.tc_ring.specs.Surds.{surds}
use Rattle.channel_rep.specs.Cells.{entries}
use Rattle.channel_rep.specs.Parts.{cells_of, IsNarrow}
use Rattle.channel_rep.proofs.Squares.{places_few}
use Rattle.channel_rep.proofs.NarrowGrids.{narrow_identity, both_back}
use Rattle.channel_rep.proofs.narrow.Narrow.new.Goals as goal

pub overflow_mul-size : goal.overflow_mul-size
overflow_mul-size c = omega (arith, places_few c.args.n c.codes-size.result c.requires.few c.codes-size.ensures)

pub invariant_of-result : goal.invariant_of-result
invariant_of-result c =
    let n = c.args.n in
    let made = c.write_identity in
    let size : c.codes-size.result * c.codes-size.result ≡ 4 ^ n * 4 ^ n = ap (λ (z : ℕ). z * z) c.codes-size.ensures in
    let whole : length made.new.a ≡ 4 ^ n * 4 ^ n = made.auto.a ∙ c.deref_mut.ensures.len ∙ c.in_ok-a.ensures.len ∙ size in
    let root : length made.new.b ≡ 4 ^ n * 4 ^ n = made.auto.b ∙ c.deref_mut-2.ensures.len ∙ c.in_ok-b.ensures.len ∙ size in
    both_back (IsNarrow n 0) _ _ c.in_ok-a.a.items c.in_ok-b.b.items c.deref_mut.result.now c.deref_mut-2.result.now made.new.a made.new.b c.deref_mut.ensures.value c.deref_mut-2.ensures.value c.deref_mut.ensures.len c.deref_mut-2.ensures.len
    made.auto.a made.auto.b
    (narrow_identity n made.new.a made.new.b c.requires.some c.requires.few whole root (subst (λ size. Agree surds size (entries size (cells_of made.new.a made.new.b)) (identity surds)) c.codes-size.ensures made.ensures))
