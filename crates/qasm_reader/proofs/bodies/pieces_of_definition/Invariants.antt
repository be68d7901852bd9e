use Rattle.std.proofs.Common.{[], take}
use Rattle.std.specs.List.{flat_map}
use Rattle.qasm_reader.specs.Known.{known}
use Rattle.qasm_reader.specs.State.{entry_gates}
use Rattle.qasm_reader.specs.Pieces.{Adds}
use Rattle.qasm_reader.specs.View.{known_behind, meanings_behind, name_list, entries}
use Rattle.qasm_reader.proofs.bodies.pieces_of_definition.Given as goal

abbrev pub invariant-loop-line : goal.invariant-loop-line
invariant-loop-line l = Adds (meanings_behind known l.list.list.items) l.list.list.items [] (flat_map (entry_gates (known_behind known l.list.list.items) (name_list l.definition.names.items)) (entries (take l.line-index l.definition.body.items))) l.pieces.items
