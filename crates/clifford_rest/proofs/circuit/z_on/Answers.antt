use Rattle.std.proofs.Common.{arith}
use Rattle.channel_rep.proofs.Images.{letter_shifted}
use Rattle.clifford_rest.proofs.circuit.z_on.Goals as goal

pub returns : goal.returns
returns c = letter_shifted c.args.q 3 c.requires (omega arith)
