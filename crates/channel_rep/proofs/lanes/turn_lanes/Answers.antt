use Rattle.std.proofs.Common.{◌≡◌, List, sym, subst}
use Rattle.std.specs.Prelude.{ℤ, ◌-ℤ◌, ◌+ℤ◌}
use Rattle.std.specs.Simd.Lanes.{put_chunk}
use Rattle.channel_rep.specs.Lanes.{LanesFit, TurnsPairs}
use Rattle.channel_rep.proofs.Pairs.{lanes_again, lanes_stored, fit_first, fit_second, stored_turned}
use Rattle.channel_rep.proofs.lanes.turn_lanes.Goals as goal

-- lanes that went through their bits fit where they did
fit_again : (xs ys : List ℤ) → LanesFit xs ys → (xs' ys' : List ℤ) → xs' ≡ xs → ys' ≡ ys → LanesFit xs' ys'
fit_again xs ys fit xs' ys' e d = subst (λ (z : List ℤ × List ℤ). LanesFit z.0 z.1) (λ i. (sym e i, sym d i)) fit

pub differences-requires : goal.differences-requires
differences-requires c =
    let fit = fit_first c.args.x c.args.y 16 c.args.numbers.now c.requires.small in
    fit_again _ _ fit _ _ (lanes_again _ fit.left) (lanes_again _ fit.right)

pub sums-requires : goal.sums-requires
sums-requires c =
    let fit = fit_second c.args.x c.args.y 16 c.args.numbers.now c.requires.small in
    fit_again _ _ fit _ _ (lanes_again _ fit.left) (lanes_again _ fit.right)

pub returns : goal.returns
returns c =
    let first = fit_first c.args.x c.args.y 16 c.args.numbers.now c.requires.small in
    let second = fit_second c.args.x c.args.y 16 c.args.numbers.now c.requires.small in
    let differences = lanes_stored ◌-ℤ◌ _ _ c.differences.result first.left first.right first.less c.differences.ensures in
    let sums = lanes_stored ◌+ℤ◌ _ _ c.sums.result second.left second.right second.more c.sums.ensures in
    subst (λ (z : List ℤ × List ℤ). TurnsPairs c.args.x c.args.y 16 c.args.numbers.now (put_chunk c.args.y (put_chunk c.args.x c.args.numbers.now z.0) z.1)) (λ i. (sym differences i, sym sums i))
    (stored_turned c.args.x c.args.y 16 c.args.numbers.now c.requires.small c.requires.apart)
