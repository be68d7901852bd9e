use Rattle.coset_label.proofs.ListedColumns.{columns_are, columns_some, columns_few}
use Rattle.quick_label.proofs.spans.codes.Goals as goal

pub returns-clause-value : goal.returns-clause-value
returns-clause-value c = columns_are c.args.n c.requires

pub returns-clause-some : goal.returns-clause-some
returns-clause-some c = columns_some c.args.n c.requires

pub returns-clause-few : goal.returns-clause-few
returns-clause-few c = columns_few c.args.n c.requires
