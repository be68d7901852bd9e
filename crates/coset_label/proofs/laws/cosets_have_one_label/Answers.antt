use Rattle.coset_label.proofs.WordChannels.{one_label_of_words}
use Rattle.coset_label.proofs.laws.cosets_have_one_label.Goals as goal

pub returns : goal.returns
returns c = λ n some few v w hv hw same label other is is_other. one_label_of_words n v w label other is is_other some few hv hw same
