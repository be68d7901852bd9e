use Rattle.std.proofs.Common.{◌≡◌, ◌+◌, length, take, min}
use Rattle.std.specs.List.{flat_map}
use Rattle.tc_circuit.specs.Model.{t_count_of}
use Rattle.qasm_reader.specs.Limits.{most_gates_defined}
use Rattle.qasm_reader.specs.Known.{known}
use Rattle.qasm_reader.specs.State.{entry_gates}
use Rattle.qasm_reader.specs.View.{known_behind, name_list, entries}
use Rattle.qasm_reader.proofs.bodies.body_size.Given as goal

abbrev pub invariant-loop-line : goal.invariant-loop-line
invariant-loop-line l = record {
  length : l.length ≡ min (length (flat_map (entry_gates (known_behind known l.list.list.items) (name_list l.definition.names.items)) (entries (take l.line-index l.definition.body.items)))) (most_gates_defined + 1);
  t_count : l.t_count ≡ min (t_count_of (flat_map (entry_gates (known_behind known l.list.list.items) (name_list l.definition.names.items)) (entries (take l.line-index l.definition.body.items)))) (most_gates_defined + 1);
}
