use Rattle.quick_label.proofs.Letters.{sums_before}
use Rattle.quick_label.proofs.laws.sums_before_letters.Goals as goal

pub returns : goal.returns
returns c = sums_before
