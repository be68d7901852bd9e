use Rattle.std.proofs.Common.{◌∙◌, arith}
use Rattle.channel_rep.specs.declared.gate.ChannelGate.TheVariants.{H}
use Rattle.clifford_rest.proofs.Lists.{reversed_more}
use Rattle.clifford_rest.proofs.circuit.inverse_circuit.Goals as goal

pub loop-place-preserved : goal.loop-place-preserved
loop-place-preserved c = (
  c.push.ensures.qubits ∙ c.loop-place.invariant.0,
  reversed_more c.args.gates.now c.loop-place.place (H 0) c.inverse.result c.loop-place.circuit.gates c.push.new.self.gates (omega arith) (omega arith) c.inverse.ensures c.loop-place.invariant.1 c.in_ok-push.ensures.ok,
)
