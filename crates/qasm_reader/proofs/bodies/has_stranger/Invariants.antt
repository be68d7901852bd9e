use Rattle.std.proofs.Common.{◌≡◌, false, not, take}
use Rattle.std.specs.List.{list_any}
use Rattle.qasm_reader.specs.View.{names, name_list}
use Rattle.qasm_reader.proofs.bodies.has_stranger.Given as goal

abbrev pub invariant-loop-name : goal.invariant-loop-name
invariant-loop-name l = list_any (λ a. not (names l.set a)) (name_list (take l.name-index l.args)) ≡ false
