use Rattle.word_laws.proofs.Rests.{coset_of_rest, rest_of_coset}
use Rattle.word_laws.proofs.laws.rests_tell_cosets.Goals as goal

pub returns : goal.returns
returns c n some few word is m circuit rest same least =
    (λ h. coset_of_rest n some few word is m circuit rest same h.0 h.1, rest_of_coset n some few word is m circuit rest same least)
