use Rattle.std.proofs.Common.{◌+◌, ◌*◌, arith}
use Rattle.channel_rep.proofs.Pairs.{small_left, turned_more}
use Rattle.channel_rep.proofs.lanes.turn_runs.Goals as goal

pub turn_lanes-requires-clause-small : goal.turn_lanes-requires-clause-small
turn_lanes-requires-clause-small c =
    small_left c.args.x c.args.y (c.loop-run.run * 16) 16 (c.args.runs * 16) (omega arith) c.requires.apart c.args.numbers.now c.loop-run.numbers c.loop-run.invariant c.loop-run.auto.numbers c.requires.small

pub loop-run-preserved : goal.loop-run-preserved
loop-run-preserved c =
    turned_more c.args.x c.args.y (c.loop-run.run * 16) 16 (c.args.runs * 16) (omega arith) c.requires.apart c.args.numbers.now c.loop-run.numbers c.loop-run.invariant _ ((c.loop-run.run + 1) * 16) (omega arith)
    c.turn_lanes.ensures
