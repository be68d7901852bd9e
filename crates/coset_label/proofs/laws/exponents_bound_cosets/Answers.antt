use Rattle.coset_label.proofs.Exponents.{least_of_coset, least_of_words}
use Rattle.coset_label.proofs.laws.exponents_bound_cosets.Goals as goal

pub returns-clause-tables : goal.returns-clause-tables
returns-clause-tables c = least_of_coset

pub returns-clause-words : goal.returns-clause-words
returns-clause-words c = least_of_words
