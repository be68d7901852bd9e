use Rattle.quick_label.proofs.SmallNumbers.{small_numbers}
use Rattle.quick_label.proofs.laws.small_by_norm.Goals as goal

pub returns : goal.returns
returns c = small_numbers
