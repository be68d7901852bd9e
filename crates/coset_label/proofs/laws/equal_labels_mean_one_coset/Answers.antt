use Rattle.std.proofs.Common.{refl}
use Rattle.coset_label.proofs.WordChannels.{one_coset_of_words}
use Rattle.coset_label.proofs.laws.equal_labels_mean_one_coset.Goals as goal

pub returns : goal.returns
returns c = λ n some few v w hv hw label is is_other. one_coset_of_words n v w label label is is_other refl
