use Rattle.std.proofs.Common.{◌^◌}
use Rattle.channel_rep.specs.Rows.{moved, gate_turn}
use Rattle.channel_rep.proofs.Sweeps.{ChangedBelow}
use Rattle.channel_rep.proofs.steps.move_rows.Given as goal

abbrev pub invariant-loop-row : goal.invariant-loop-row
invariant-loop-row l = ChangedBelow (4 ^ l.n) (gate_turn l.n l.gate) (moved l.n l.gate) l.row l.initial.cells l.cells
