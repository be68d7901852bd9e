use Rattle.quick_label.proofs.DigitOrder.{number_sign, number_order}
use Rattle.quick_label.proofs.laws.numbers_tell_order.Goals as goal

pub returns-clause-signs : goal.returns-clause-signs
returns-clause-signs c = number_sign

pub returns-clause-order : goal.returns-clause-order
returns-clause-order c = number_order
