use Rattle.channel_rep.specs.declared.gate.ChannelGate.TheVariants.{H}
use Rattle.clifford_rest.proofs.Lists.{conjugated_by_more, conjugated_by_all}
use Rattle.clifford_rest.proofs.pauli.conjugate_by.Goals as goal

pub loop-gate-preserved : goal.loop-gate-preserved
loop-gate-preserved c = (
  c.conjugate-image.ensures.below,
  conjugated_by_more c.args.n c.args.gates.now c.loop-gate.gate-index (H 0) c.args.p c.loop-gate.image c.conjugate-image.result c.loop-gate-test.true c.loop-gate.invariant.1 c.conjugate-image.ensures.value,
)

pub returns-clause-value : goal.returns-clause-value
returns-clause-value c = conjugated_by_all c.args.n c.args.gates.now c.loop-gate.gate-index c.args.p c.loop-gate.image c.loop-gate-test.false c.loop-gate.invariant.1
