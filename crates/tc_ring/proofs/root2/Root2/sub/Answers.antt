use Rattle.std.proofs.Common.{arith}
use Rattle.std.proofs.lemmas.Int.{ints}
use Rattle.tc_ring.specs.Surds.{surd_plus, surd_negative}
use Rattle.tc_ring.proofs.Surds.{same_surd}
use Rattle.tc_ring.proofs.root2.Root2.sub.Goals as goal

pub returns-clause-value : goal.returns-clause-value
unfolding surd_plus surd_negative
returns-clause-value c = same_surd (omega (arith, ints)) (omega (arith, ints))
