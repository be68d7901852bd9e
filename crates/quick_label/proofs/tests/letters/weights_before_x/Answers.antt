use Rattle.std.proofs.Common.{arith}
use Rattle.pauli_basis.proofs.Products.{product_code-lt}
use Rattle.quick_label.proofs.tests.letters.weights_before_x.Goals as goal

pub take_before-requires-clause-closed : goal.take_before-requires-clause-closed
take_before-requires-clause-closed c row l = omega (arith, c.requires.rows, product_code-lt 1 1 row (omega arith) (omega (arith, c.requires.rows)))
