use Rattle.quick_label.proofs.FrontNumbers.{number_before}
use Rattle.quick_label.proofs.laws.numbers_before_letters.Goals as goal

pub returns : goal.returns
returns c = number_before
