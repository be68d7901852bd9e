use Rattle.level_laws.proofs.Partners.{are_partners}
use Rattle.level_laws.proofs.laws.partners_lie_in_one_coset.Goals as goal

pub returns : goal.returns
returns c = are_partners
