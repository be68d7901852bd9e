use Rattle.std.proofs.Common.{◌≡◌, ◌+◌, ◌*◌, refl, sym, subst, arith, inl, inr}
use Rattle.std.specs.Prelude.{pos, ◌*ℤ◌}
use mir.Facts.{to_z-of_z}
use Rattle.channel_rep.specs.Lanes.{number}
use Rattle.channel_rep.proofs.Pairs.{Fit, small_fits, small_twice}
use Rattle.channel_rep.proofs.Places.{row_before}
use Rattle.channel_rep.proofs.TurnedParts.{small_place, scaled_none, scaled_more, scaled_parts}
use Rattle.channel_rep.proofs.turns.scale_parts.Goals as goal

pub overflow_mul-a : goal.overflow_mul-a
overflow_mul-a c =
    let place = c.loop-place.place in
    let small = small_place c.args.size c.args.a.now c.args.b.now c.requires.whole c.requires.root c.args.row place c.requires.below (omega arith) c.loop-place-test.true c.requires.small in
    let same : number c.loop-place.b place ≡ number c.args.b.now place = (c.loop-place.invariant.behind place (omega arith)).1 in
    subst (λ z. Fit (pos 2 *ℤ z)) (sym (to_z-of_z (subst Fit (sym same) (small_fits _ small.1)))) (subst (λ z. Fit (pos 2 *ℤ z)) (sym same) (small_twice _ small.1))

pub loop-place-init : goal.loop-place-init
loop-place-init c = scaled_none _ _ c.args.a.now c.args.b.now refl

pub loop-place-preserved : goal.loop-place-preserved
loop-place-preserved c =
    let place = c.loop-place.place in
    let small = small_place c.args.size c.args.a.now c.args.b.now c.requires.whole c.requires.root c.args.row place c.requires.below (omega arith) c.loop-place-test.true c.requires.small in
    let end = row_before c.args.row c.args.size c.args.size c.requires.below in
    scaled_more (c.args.row * c.args.size) place c.args.a.now c.args.b.now c.loop-place.a c.loop-place.b (omega arith) (omega arith) (omega arith) small.0 small.1 c.loop-place.invariant

pub returns : goal.returns
returns c =
    let start = c.args.row * c.args.size in
    let done = c.loop-place.invariant in
    scaled_parts c.args.size c.args.a.now c.args.b.now c.requires.whole c.requires.root c.loop-place.a c.loop-place.b c.loop-place.auto.a c.loop-place.auto.b c.args.row c.requires.below
    (λ k l. done.whole (start + k) (omega arith) (omega arith)) (λ k l. done.root (start + k) (omega arith) (omega arith)) (λ k outside. elim outside [ inl before ↦ done.before k before | inr behind ↦ done.behind k (omega arith) ])
