use Rattle.std.proofs.Common.{◌-◌, ◌*◌, ◌/◌, arith}
use Rattle.channel_rep.proofs.Pairs.{small_left, turned_more}
use Rattle.channel_rep.proofs.lanes.subtract_and_add.Goals as goal

pub turn_one_by_one-requires-clause-small : goal.turn_one_by_one-requires-clause-small
turn_one_by_one-requires-clause-small c =
    let done = c.args.count / 16 * 16 in
    small_left c.args.x c.args.y done (c.args.count - done) c.args.count (omega arith) c.requires.apart c.args.numbers.now c.turn_runs.new.numbers c.turn_runs.ensures c.turn_runs.auto.numbers c.requires.small

pub returns : goal.returns
returns c =
    let done = c.args.count / 16 * 16 in
    turned_more c.args.x c.args.y done (c.args.count - done) c.args.count (omega arith) c.requires.apart c.args.numbers.now c.turn_runs.new.numbers c.turn_runs.ensures _ c.args.count (omega arith)
    c.turn_one_by_one.ensures
