use Rattle.std.proofs.Common.{arith}
use Rattle.std.proofs.lemmas.Int.{ints}
use Rattle.tc_ring.specs.Surds.{surd_times, root2_surd}
use Rattle.tc_ring.proofs.Surds.{same_surd}
use Rattle.tc_ring.proofs.root2.Root2.times_root2.Goals as goal

pub returns-clause-value : goal.returns-clause-value
unfolding surd_times root2_surd
returns-clause-value c = same_surd (omega (arith, ints)) (omega (arith, ints))
