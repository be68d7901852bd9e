use Rattle.std.specs.Int.Bits.{xor_self}
use Rattle.pauli_basis.proofs.Products.{turns-self}
use Rattle.pauli_basis.proofs.laws.square_is_identity.Goals as goal

pub returns-clause-code : goal.returns-clause-code
returns-clause-code c = xor_self c.args.p.now.code

pub returns-clause-turns : goal.returns-clause-turns
returns-clause-turns c = turns-self _ _
