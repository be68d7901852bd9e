use Rattle.channel_rep.proofs.Built.{same_table_trans}
use Rattle.channel_rep.proofs.Products.{tables_left, tables_right, tables_assoc, identity-table, table-identity, built_append}
use Rattle.channel_rep.proofs.laws.tables_multiply.Goals as goal

pub returns-clause-monoid : goal.returns-clause-monoid
returns-clause-monoid c = λ n. record {
  associative = tables_assoc n;
  left_identity = identity-table n;
  right_identity = table-identity n;
  congruent = λ a a' b b' h g. same_table_trans n _ _ _ (tables_left n a a' b h) (tables_right n a' b b' g);
}

pub returns-clause-built : goal.returns-clause-built
returns-clause-built c = built_append
