use Rattle.quick_label.proofs.PackableWords.{words_packable}
use Rattle.quick_label.proofs.laws.words_are_packable.Goals as goal

pub returns : goal.returns
returns c = words_packable
