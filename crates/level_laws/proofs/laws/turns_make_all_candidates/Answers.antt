use Rattle.level_laws.proofs.Examples.{first_turns}
use Rattle.level_laws.proofs.Partners.{turns_all}
use Rattle.level_laws.proofs.laws.turns_make_all_candidates.Goals as goal

pub returns-clause-all : goal.returns-clause-all
returns-clause-all c = turns_all

pub returns-clause-first : goal.returns-clause-first
returns-clause-first c = first_turns
