use Rattle.std.proofs.Common.{◌≡◌, ◌∷◌, [], All, length, length-append, ap, sym, subst, arith}
use Rattle.std.proofs.lemmas.List.Elements.{All-push}
use Rattle.channel_rep.specs.Cells.{ChannelGrid}
use Rattle.meet_middle.proofs.trail.rests_of.Goals as goal

pub loop-preserved : goal.loop-preserved
loop-preserved c =
    let old = c.loop.rests.items in
    let one = c.take.new.self in
    let is = c.in_ok-push.ensures.items in
    record {
      long = omega (arith, ap length is, length-append old (one ∷ []), c.loop.invariant.long);
      all = subst (All (λ (r : ChannelGrid). r ≡ c.args.target.now)) (sym is) (All-push (λ (r : ChannelGrid). r ≡ c.args.target.now) old one c.loop.invariant.all c.take.ensures);
    }
