use Rattle.std.proofs.Common.{◌∙◌, ap, sym, subst}
use Rattle.qasm_angle.specs.Angles.{HasValue}
use Rattle.qasm_angle.specs.Steps.{value_at}
use Rattle.qasm_angle.proofs.Values.{has_value}
use Rattle.qasm_angle.proofs.readings.AngleReading.value.Goals as goal

pub returns : goal.returns
returns c ss h = subst (HasValue ss) (sym (c.value_at.ensures ∙ ap value_at h)) (has_value ss)
