use Rattle.meet_laws.proofs.Meeting.{meets_in_coset}
use Rattle.meet_laws.proofs.Totals.{even_total, odd_total}
use Rattle.meet_laws.proofs.laws.halves_meet.Goals as goal

pub returns-clause-even : goal.returns-clause-even
returns-clause-even c = even_total

pub returns-clause-odd : goal.returns-clause-odd
returns-clause-odd c = odd_total

pub returns-clause-spelled : goal.returns-clause-spelled
returns-clause-spelled c = meets_in_coset
