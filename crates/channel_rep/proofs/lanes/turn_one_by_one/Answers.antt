use Rattle.std.proofs.Common.{◌+◌, refl, arith}
use Rattle.channel_rep.proofs.Pairs.{apart_part, small_left, turned_more, turned_again}
use Rattle.channel_rep.proofs.lanes.turn_one_by_one.Goals as goal

pub loop-k-preserved : goal.loop-k-preserved
loop-k-preserved c =
    let small = small_left c.args.x c.args.y c.loop-k.k 1 c.args.count (omega arith) c.requires.apart c.args.numbers.now c.loop-k.numbers c.loop-k.invariant c.loop-k.auto.numbers c.requires.small in
    turned_more c.args.x c.args.y c.loop-k.k 1 c.args.count (omega arith) c.requires.apart c.args.numbers.now c.loop-k.numbers c.loop-k.invariant _ (c.loop-k.k + 1) refl
    (turned_again _ _ c.loop-k.numbers (apart_part c.args.x c.args.y c.loop-k.k 1 c.args.count (omega arith) c.requires.apart) small)
