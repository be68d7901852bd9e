use Rattle.label_laws.proofs.Totals.{total_of_label, tag_of_total, placed-half}
use Rattle.label_laws.proofs.laws.labels_are_sums.Goals as goal

pub returns-clause-sums : goal.returns-clause-sums
returns-clause-sums a = total_of_label

pub returns-clause-tags : goal.returns-clause-tags
returns-clause-tags a = tag_of_total

pub returns-clause-halves : goal.returns-clause-halves
returns-clause-halves a = placed-half
