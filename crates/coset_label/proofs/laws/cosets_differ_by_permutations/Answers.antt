use Rattle.channel_rep.proofs.Independent.{circuit_independent}
use Rattle.coset_label.proofs.Permutations.{permutation_of_coset, coset_of_permutation}
use Rattle.coset_label.proofs.laws.cosets_differ_by_permutations.Goals as goal

pub returns : goal.returns
returns c = λ n some few a b ca cb. (
  permutation_of_coset n a b (circuit_independent n some few a ca) (circuit_independent n some few b cb),
  coset_of_permutation n a b,
)
