use Rattle.std.proofs.Common.{refl}
use Rattle.qasm_angle.specs.Steps.{reading_of}
use Rattle.qasm_angle.proofs.readings.AngleReading.new.Goals as goal

pub returns : goal.returns
unfolding reading_of
returns c = refl
