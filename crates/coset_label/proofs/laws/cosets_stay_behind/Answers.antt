use Rattle.coset_label.proofs.InFront.{product_coset, step_coset}
use Rattle.coset_label.proofs.laws.cosets_stay_behind.Goals as goal

pub returns-clause-tables : goal.returns-clause-tables
returns-clause-tables c = product_coset

pub returns-clause-steps : goal.returns-clause-steps
returns-clause-steps c = step_coset
