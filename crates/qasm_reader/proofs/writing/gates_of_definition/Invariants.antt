use Rattle.std.proofs.Common.{◌≡◌, ◌++◌}
use Rattle.std.specs.Prelude.{reverse}
use Rattle.qasm_reader.specs.Known.{known}
use Rattle.qasm_reader.specs.Pieces.{meaning, gates_of_pieces, AreSound, weight}
use Rattle.qasm_reader.specs.View.{meanings_behind}
use Rattle.qasm_reader.proofs.writing.gates_of_definition.Given as goal

abbrev pub invariant-loop-piece : goal.invariant-loop-piece
invariant-loop-piece l = record {
  written : l.gates.items ++ gates_of_pieces (meanings_behind known l.list.list.items) (reverse l.todo.items) ≡ (meaning (meanings_behind known l.list.list.items) l.place).gates;
  sound : AreSound (meanings_behind known l.list.list.items) l.list.list.items (reverse l.todo.items);
}

abbrev pub decreases-loop-piece : goal.decreases-loop-piece
decreases-loop-piece l = weight (meanings_behind known l.list.list.items) (reverse l.todo.items)
