use Rattle.std.proofs.Common.{ap}
use Rattle.coset_label.specs.Tags.{tag_of}
use Rattle.coset_label.proofs.WordChannels.{one_label_of_words}
use Rattle.coset_label.proofs.laws.cosets_have_one_tag.Goals as goal

pub returns : goal.returns
returns c = λ n some few v w hv hw same label other is is_other. ap tag_of (one_label_of_words n v w label other is is_other some few hv hw same)
