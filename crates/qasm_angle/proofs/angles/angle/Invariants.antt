use Rattle.std.proofs.Common.{map, take}
use Rattle.qasm_angle.specs.Symbols.{symbol_of}
use Rattle.qasm_angle.specs.Steps.{HasRead}
use Rattle.qasm_angle.proofs.angles.angle.Given as goal

abbrev pub invariant-loop-token : goal.invariant-loop-token
invariant-loop-token l = HasRead l.reading (map (symbol_of l.text) (take l.token-index l.tokens))
