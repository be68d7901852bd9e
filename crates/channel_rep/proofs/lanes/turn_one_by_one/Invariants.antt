use Rattle.channel_rep.specs.Lanes.{TurnsPairs}
use Rattle.channel_rep.proofs.lanes.turn_one_by_one.Given as goal

abbrev pub invariant-loop-k : goal.invariant-loop-k
invariant-loop-k l = TurnsPairs l.x l.y l.k l.initial.numbers l.numbers
