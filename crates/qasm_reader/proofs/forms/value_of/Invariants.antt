use Rattle.std.proofs.Common.{map, take}
use Rattle.qasm_angle.specs.Steps.{HasRead}
use Rattle.qasm_reader.specs.Forms.{shape, symbols}
use Rattle.qasm_reader.specs.View.{lexemes}
use Rattle.qasm_reader.proofs.forms.value_of.Given as goal

abbrev pub invariant-loop-w : goal.invariant-loop-w
invariant-loop-w l = HasRead l.reading (symbols (map shape (lexemes (take l.w-index l.ws))))
