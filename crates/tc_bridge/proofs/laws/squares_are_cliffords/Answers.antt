use Rattle.tc_circuit.specs.declared.circuit.Gate.{Gate}
use Rattle.tc_bridge.specs.Block.{opening, highest, conjugated_gates}
use Rattle.tc_bridge.proofs.Squares.{square_circuit}
use Rattle.tc_bridge.proofs.laws.squares_are_cliffords.Goals as goal

pub returns : goal.returns
returns c = λ n some few p l d. (conjugated_gates (opening n p) (Gate.S (highest n p)), square_circuit n some few p l d)
