use Rattle.level_laws.proofs.Positions.{even_front, odd_front}
use Rattle.level_laws.proofs.laws.fronts_are_words.Goals as goal

pub returns-clause-even : goal.returns-clause-even
returns-clause-even c = even_front

pub returns-clause-odd : goal.returns-clause-odd
returns-clause-odd c = odd_front
