use Rattle.qasm_reader.proofs.Small.{few_qubits, gates_fit_qubits, few_t_gates, few_gates_read}
use Rattle.qasm_reader.proofs.laws.read_circuits_are_small.Goals as goal

pub returns : goal.returns
returns c = record { some = λ text circuit r. r.some; few = few_qubits; fit = gates_fit_qubits; low = few_t_gates; short = few_gates_read }
