use Rattle.std.proofs.Common.{◌≡◌, ◌++◌, map, take}
use Rattle.qasm_reader.specs.declared.pieces.Piece.TheVariants.{One}
use Rattle.qasm_reader.specs.Pieces.{image}
use Rattle.qasm_reader.proofs.bodies.push_gates.Given as goal

abbrev pub invariant-loop-gate : goal.invariant-loop-gate
invariant-loop-gate l = l.pieces.items ≡ l.fn.pieces.items ++ map (λ g. One (image l.places g)) (take l.gate-index l.gates)
