use Rattle.std.proofs.Common.{◌≡◌, drop}
use Rattle.qasm_reader.specs.Parse.{names_of}
use Rattle.qasm_reader.specs.View.{arguments, name_list}
use Rattle.qasm_reader.proofs.Splits.{with_front}
use Rattle.qasm_reader.proofs.forms.names_of.Given as goal

abbrev pub invariant-loop-argument : goal.invariant-loop-argument
invariant-loop-argument l = with_front (name_list l.names.items) (names_of (arguments (drop l.argument-index l.args))) ≡ names_of (arguments l.args)
