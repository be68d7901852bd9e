use Rattle.qasm_reader.proofs.Within.{includes_are_taken, registers_are_taken, gates_are_taken}
use Rattle.qasm_reader.proofs.laws.statements_within_limits_are_taken.Goals as goal

pub returns : goal.returns
returns c = record { include = includes_are_taken; register = registers_are_taken; gate = gates_are_taken }
