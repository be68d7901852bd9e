use Rattle.ring_laws.proofs.Integers.{integers_laws}
use Rattle.ring_laws.proofs.Cyclotomic.{cyclotomics_laws, root2-root2, ω-fourth, ω-eighth}
use Rattle.ring_laws.proofs.ring_laws_hold.Goals as goal

pub returns-clause-integers : goal.returns-clause-integers
returns-clause-integers c = integers_laws

pub returns-clause-cyclotomics : goal.returns-clause-cyclotomics
returns-clause-cyclotomics c = cyclotomics_laws

pub returns-clause-root : goal.returns-clause-root
returns-clause-root c = root2-root2

pub returns-clause-fourth : goal.returns-clause-fourth
returns-clause-fourth c = ω-fourth

pub returns-clause-eighth : goal.returns-clause-eighth
returns-clause-eighth c = ω-eighth
