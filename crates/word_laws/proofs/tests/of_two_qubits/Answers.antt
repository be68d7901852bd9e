use Rattle.std.proofs.Common.{arith}
use Rattle.pauli_basis.proofs.Products.{product_code-lt}
use Rattle.word_laws.proofs.tests.of_two_qubits.Goals as goal

pub divisions-requires-clause-closed : goal.divisions-requires-clause-closed
divisions-requires-clause-closed c row l = let below = product_code-lt 2 c.args.p row (omega arith) (omega arith) in omega (arith, below)
