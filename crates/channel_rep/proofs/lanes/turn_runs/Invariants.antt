use Rattle.std.proofs.Common.{◌*◌}
use Rattle.channel_rep.specs.Lanes.{TurnsPairs}
use Rattle.channel_rep.proofs.lanes.turn_runs.Given as goal

abbrev pub invariant-loop-run : goal.invariant-loop-run
invariant-loop-run l = TurnsPairs l.x l.y (l.run * 16) l.initial.numbers l.numbers
