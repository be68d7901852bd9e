use Rattle.std.proofs.Common.{◌*◌}
use Rattle.channel_rep.proofs.TurnedParts.{ScaledBelow}
use Rattle.channel_rep.proofs.turns.scale_parts.Given as goal

abbrev pub invariant-loop-place : goal.invariant-loop-place
invariant-loop-place l = ScaledBelow (l.row * l.size) l.place l.initial.a l.initial.b l.a l.b
