use Rattle.std.proofs.Common.{◌^◌}
use Rattle.channel_rep.specs.Rows.{rotated, rotation_turn}
use Rattle.channel_rep.specs.Parts.{cells_of}
use Rattle.channel_rep.proofs.Sweeps.{ChangedBelow}
use Rattle.channel_rep.proofs.turns.rotate_parts.Given as goal

abbrev pub invariant-loop-row : goal.invariant-loop-row
invariant-loop-row l =
    ChangedBelow (4 ^ l.p.qubits) (rotation_turn l.p.qubits l.p.code) (rotated l.p.qubits l.inverse l.p.code) l.row (cells_of l.initial.a l.initial.b) (cells_of l.a l.b)
