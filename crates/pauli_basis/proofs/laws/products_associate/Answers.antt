use Rattle.std.specs.Int.Bits.{xor_assoc}
use Rattle.pauli_basis.proofs.Products.{turns-assoc}
use Rattle.pauli_basis.proofs.laws.products_associate.Goals as goal

pub returns-clause-code : goal.returns-clause-code
returns-clause-code c = xor_assoc c.args.p.now.code c.args.q.now.code c.args.r.now.code

pub returns-clause-turns : goal.returns-clause-turns
returns-clause-turns c = turns-assoc _ _ _ _
