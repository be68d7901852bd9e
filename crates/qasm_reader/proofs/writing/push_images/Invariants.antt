use Rattle.std.proofs.Common.{◌≡◌, ◌≤◌, ◌++◌, length, map, drop}
use Rattle.std.specs.Prelude.{reverse}
use Rattle.qasm_reader.specs.Pieces.{piece_image}
use Rattle.qasm_reader.proofs.writing.push_images.Given as goal

abbrev pub invariant-pieces : goal.invariant-pieces
invariant-pieces l = record {
  within : l.at ≤ length l.pieces;
  added : l.todo.items ≡ l.fn.todo.items ++ reverse (map (piece_image l.places) (drop l.at l.pieces));
}

abbrev pub decreases-pieces : goal.decreases-pieces
decreases-pieces l = l.at
