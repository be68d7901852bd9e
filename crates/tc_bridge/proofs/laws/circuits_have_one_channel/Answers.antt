use Rattle.tc_circuit.specs.Model.{matrix_of}
use Rattle.tc_bridge.specs.Steps.{steps_of}
use Rattle.tc_bridge.proofs.Unitary.{unitary_circuit}
use Rattle.tc_bridge.proofs.Unique.{unique}
use Rattle.tc_bridge.proofs.CircuitChannels.{circuit_channel, steps_fit}
use Rattle.tc_bridge.proofs.laws.circuits_have_one_channel.Goals as goal

pub returns-clause-exists : goal.returns-clause-exists
returns-clause-exists c = circuit_channel

pub returns-clause-unique : goal.returns-clause-unique
returns-clause-unique c = λ n some few gates fits a b. unique n (matrix_of n gates).table (matrix_of n gates).exponent a b (unitary_circuit n some few gates fits)

pub returns-clause-built : goal.returns-clause-built
returns-clause-built c = λ n gates fits m is. (steps_of gates, steps_fit n gates fits, is)
