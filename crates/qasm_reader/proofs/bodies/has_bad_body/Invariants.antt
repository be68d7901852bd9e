use Rattle.std.proofs.Common.{◌≡◌, false, take}
use Rattle.std.specs.List.{list_any}
use Rattle.qasm_reader.specs.Known.{known}
use Rattle.qasm_reader.specs.Rows.{is_bad_entry}
use Rattle.qasm_reader.specs.View.{known_behind, name_list, entries}
use Rattle.qasm_reader.proofs.bodies.has_bad_body.Given as goal

abbrev pub invariant-loop-line : goal.invariant-loop-line
invariant-loop-line l = list_any (is_bad_entry (known_behind known l.list.list.items) (name_list l.definition.names.items)) (entries (take l.line-index l.definition.body.items)) ≡ false
