use Rattle.meet_laws.proofs.Between.{lies_with_identity, clifford_between, coset_of_clifford}
use Rattle.meet_laws.proofs.laws.cosets_differ_by_cliffords.Goals as goal

pub returns-clause-identity : goal.returns-clause-identity
returns-clause-identity c = lies_with_identity

pub returns-clause-between : goal.returns-clause-between
returns-clause-between c = λ n some few a b ha hb. (clifford_between n some few a b ha hb, coset_of_clifford n some few a b)
