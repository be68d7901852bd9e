use Rattle.std.proofs.Common.{map, take, sym, subst}
use Rattle.qasm_angle.specs.Steps.{HasRead}
use Rattle.qasm_reader.specs.Forms.{shape, symbols}
use Rattle.qasm_reader.specs.View.{lexemes}
use Rattle.qasm_reader.proofs.Rotations.{symbols_more}
use Rattle.qasm_reader.proofs.forms.value_of.Goals as goal

pub loop-w-preserved : goal.loop-w-preserved
loop-w-preserved c =
    subst (HasRead c.behind-reading.result) (sym (symbols_more c.args.ws.now c.loop-w.w-index _ c.loop-w-test.true))
    (c.behind-reading.ensures (symbols (map shape (lexemes (take c.loop-w.w-index c.args.ws.now)))) c.loop-w.invariant)
