use Rattle.std.proofs.Common.{◌≡◌, ◌*◌, ◌^◌, length}
use Rattle.channel_rep.proofs.Moves.{MovedBelow}
use Rattle.channel_rep.proofs.steps.conjugate_rows.Given as goal

abbrev pub invariant-loop-row : goal.invariant-loop-row
invariant-loop-row l = record {
  whole : length l.cells ≡ 4 ^ l.by.qubits * 4 ^ l.by.qubits;
  moved : MovedBelow l.by l.row l.from l.cells;
}
