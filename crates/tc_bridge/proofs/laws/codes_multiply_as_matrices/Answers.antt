use Rattle.tc_bridge.proofs.Paulis.{pauli_product}
use Rattle.tc_bridge.proofs.Commuting.{pauli_swap, pauli_anti}
use Rattle.tc_bridge.proofs.laws.codes_multiply_as_matrices.Goals as goal

pub returns-clause-product : goal.returns-clause-product
returns-clause-product c = λ n p q row column l l'. pauli_product n p q row column

pub returns-clause-swap : goal.returns-clause-swap
returns-clause-swap c = λ n p q row column l l'. pauli_swap n p q row column

pub returns-clause-anti : goal.returns-clause-anti
returns-clause-anti c = λ n p q e row column l l'. pauli_anti n p q row column e
