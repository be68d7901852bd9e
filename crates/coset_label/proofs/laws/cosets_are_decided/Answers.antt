use Rattle.coset_label.proofs.Deciding.{one_coset_decided}
use Rattle.coset_label.proofs.laws.cosets_are_decided.Goals as goal

pub returns : goal.returns
returns c = one_coset_decided
