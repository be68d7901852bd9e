use Rattle.tc_bridge.proofs.Phases.{phase_of_unit}
use Rattle.tc_bridge.proofs.laws.unit_scalars_are_powers.Goals as goal

pub returns : goal.returns
returns c = λ k x h. let t = phase_of_unit k x h in (t.turn, t.low, t.is)
