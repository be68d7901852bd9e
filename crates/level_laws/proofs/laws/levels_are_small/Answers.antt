use Rattle.level_laws.proofs.ShortWords.{level_is_short, level_few, positions_few, candidates_few}
use Rattle.level_laws.proofs.laws.levels_are_small.Goals as goal

pub returns-clause-short : goal.returns-clause-short
returns-clause-short c = level_is_short

pub returns-clause-words : goal.returns-clause-words
returns-clause-words c = level_few

pub returns-clause-positions : goal.returns-clause-positions
returns-clause-positions c = positions_few

pub returns-clause-candidates : goal.returns-clause-candidates
returns-clause-candidates c = candidates_few
