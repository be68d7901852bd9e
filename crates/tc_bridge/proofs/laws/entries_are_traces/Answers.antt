use Rattle.tc_circuit.specs.Model.{matrix_of}
use Rattle.tc_bridge.proofs.Adjoints.{adjoint}
use Rattle.tc_bridge.proofs.Unitary.{unitary_circuit}
use Rattle.tc_bridge.proofs.Traces.{entry_trace}
use Rattle.tc_bridge.proofs.laws.entries_are_traces.Goals as goal

pub returns : goal.returns
unfolding adjoint
returns c = λ n some few gates fits table h p q lp lq. entry_trace n (matrix_of n gates).table (matrix_of n gates).exponent table (unitary_circuit n some few gates fits) h p q lp lq
