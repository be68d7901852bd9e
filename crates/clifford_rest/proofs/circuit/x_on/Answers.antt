use Rattle.std.proofs.Common.{arith}
use Rattle.channel_rep.proofs.Images.{letter_shifted}
use Rattle.clifford_rest.proofs.circuit.x_on.Goals as goal

pub returns : goal.returns
returns c = omega (arith, letter_shifted c.args.q 1 c.requires (omega arith))
