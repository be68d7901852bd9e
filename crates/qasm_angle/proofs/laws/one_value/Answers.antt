use Rattle.std.proofs.Common.{◌∙◌, sym}
use Rattle.qasm_angle.specs.Steps.{value_of}
use Rattle.qasm_angle.proofs.Values.{has_value, only_value, few_eighths}
use Rattle.qasm_angle.proofs.laws.one_value.Goals as goal

pub returns : goal.returns
returns c = record { some = λ ss. (value_of ss, has_value ss); same = λ ss v w h k. sym (only_value ss v h) ∙ only_value ss w k; below = few_eighths }
