use Rattle.channel_rep.proofs.Built.{same_table_refl}
use Rattle.coset_label.specs.Words.{word_channel}
use Rattle.coset_label.proofs.OneCoset.{same_coset_of_same}
use Rattle.coset_label.proofs.WordChannels.{one_label_of_words}
use Rattle.coset_label.proofs.laws.words_have_one_label.Goals as goal

pub returns : goal.returns
returns c = λ n some few word hw label other is is_other. one_label_of_words n word word label other is is_other some few hw hw (same_coset_of_same n _ _ (same_table_refl n (word_channel n word)))
