use Rattle.std.proofs.Common.{◌∙◌}
use Rattle.pauli_basis.proofs.Products.{product_code-back, commute-back, anti_sign-back}
use Rattle.pauli_basis.proofs.laws.anti_image_turns_back.Goals as goal

pub returns-clause-anticommute : goal.returns-clause-anticommute
returns-clause-anticommute c = commute-back _ _ _ ∙ c.requires.anticommute

pub returns-clause-code : goal.returns-clause-code
returns-clause-code c = product_code-back _ _

pub returns-clause-sign : goal.returns-clause-sign
returns-clause-sign c = anti_sign-back _ _ _ c.requires.anticommute
