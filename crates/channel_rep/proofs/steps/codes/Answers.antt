use Rattle.std.proofs.Common.{◌∙◌, arith}
use Rattle.std.proofs.lemmas.Nat.{one_shl}
use Rattle.pauli_basis.proofs.Letters.{two_bits}
use Rattle.channel_rep.proofs.steps.codes.Goals as goal

pub returns : goal.returns
returns c = one_shl _ 64 (omega arith) ∙ two_bits c.args.n
