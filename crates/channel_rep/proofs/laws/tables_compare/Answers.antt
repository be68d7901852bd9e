use Rattle.channel_rep.proofs.Built.{same_table_refl, same_table_sym, same_table_trans}
use Rattle.channel_rep.proofs.laws.tables_compare.Goals as goal

pub returns : goal.returns
returns c = λ n. record { reflexive = same_table_refl n; symmetric = same_table_sym n; transitive = same_table_trans n }
