use Rattle.level_laws.proofs.AllWords.{stands_decided}
use Rattle.level_laws.proofs.Finding.{one_found, found_of_coset, found_of_same}
use Rattle.level_laws.proofs.laws.cosets_have_one_level_word.Goals as goal

pub returns-clause-unique : goal.returns-clause-unique
returns-clause-unique c = one_found

pub returns-clause-cosets : goal.returns-clause-cosets
returns-clause-cosets c = found_of_coset

pub returns-clause-tables : goal.returns-clause-tables
returns-clause-tables c = found_of_same

pub returns-clause-searched : goal.returns-clause-searched
returns-clause-searched c = stands_decided
