use Rattle.level_laws.proofs.Examples.{first_repeats}
use Rattle.level_laws.proofs.Repeats.{repeat_shortens, repeat_not_offered}
use Rattle.level_laws.proofs.laws.repeats_shorten_words.Goals as goal

pub returns-clause-shorter : goal.returns-clause-shorter
returns-clause-shorter c = repeat_shortens

pub returns-clause-offered : goal.returns-clause-offered
returns-clause-offered c = repeat_not_offered

pub returns-clause-first : goal.returns-clause-first
returns-clause-first c = first_repeats
