use Rattle.label_laws.proofs.Ranks.{rank_is, summed_in_any_order}
use Rattle.label_laws.proofs.Places.{place_by_test, later_less}
use Rattle.label_laws.proofs.laws.places_are_ranks.Goals as goal

pub returns-clause-places : goal.returns-clause-places
returns-clause-places a R order = rank_is order

pub returns-clause-sums : goal.returns-clause-sums
returns-clause-sums a R order = summed_in_any_order order

pub returns-clause-tests : goal.returns-clause-tests
returns-clause-tests a = place_by_test

pub returns-clause-leads : goal.returns-clause-leads
returns-clause-leads a = later_less
