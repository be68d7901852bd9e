use Rattle.clifford_rest.proofs.TFree.{is_permutation}
use Rattle.clifford_rest.proofs.laws.circuits_have_permutations.Goals as goal

pub returns : goal.returns
returns c = λ grid some few gates circuit none same reduced. is_permutation grid some few gates circuit none same reduced
