use Rattle.word_laws.proofs.Multiples.{divides_once, divides_twice, never_three_times}
use Rattle.word_laws.proofs.laws.parities_tell_divisions.Goals as goal

pub returns-clause-once : goal.returns-clause-once
returns-clause-once a = divides_once

pub returns-clause-twice : goal.returns-clause-twice
returns-clause-twice a = divides_twice

pub returns-clause-no_more : goal.returns-clause-no_more
returns-clause-no_more a = never_three_times
