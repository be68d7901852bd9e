use Rattle.coset_label.proofs.OneCoset.{same_coset_refl, same_coset_sym, same_coset_trans}
use Rattle.coset_label.proofs.laws.tables_are_classes.Goals as goal

pub returns : goal.returns
returns c = λ n. record { reflexive = same_coset_refl n; symmetric = same_coset_sym n; transitive = same_coset_trans n }
