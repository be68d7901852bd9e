use Rattle.channel_rep.proofs.Built.{same_table_refl}
use Rattle.coset_label.specs.Words.{word_channel}
use Rattle.coset_label.proofs.OneCoset.{same_coset_sym, same_coset_trans, same_coset_of_same}
use Rattle.coset_label.proofs.laws.cosets_are_classes.Goals as goal

pub returns : goal.returns
returns c = λ n some few. record {
  reflexive = λ u hu. same_coset_of_same n _ _ (same_table_refl n (word_channel n u));
  symmetric = λ u v hu hv. same_coset_sym n (word_channel n u) (word_channel n v);
  transitive = λ u v w hu hv hw. same_coset_trans n (word_channel n u) (word_channel n v) (word_channel n w);
}
