use Rattle.std.proofs.Common.{◌≡◌, ap, sym, arith}
use Rattle.std.specs.Fmt.{digits}
use Rattle.circuit_writer.specs.Shown.{qubit_text}
use Rattle.circuit_writer.proofs.line.qubit_name.Goals as goal

pub returns-in-0 : goal.returns-in-0
unfolding qubit_text digits
returns-in-0 c = ap qubit_text (sym c.in-0.is)

pub returns-in-1 : goal.returns-in-1
unfolding qubit_text digits
returns-in-1 c = ap qubit_text (sym c.in-1.is)

pub returns-in_default : goal.returns-in_default
unfolding qubit_text digits
returns-in_default c = let last : 2 ≡ c.args.qubit = omega arith in ap qubit_text last
