use Rattle.std.proofs.Common.{◌≡◌, take}
use Rattle.qasm_reader.proofs.forms.copy_of.Given as goal

abbrev pub invariant-loop-w : goal.invariant-loop-w
invariant-loop-w l = l.copy.items ≡ take l.w-index l.ws
