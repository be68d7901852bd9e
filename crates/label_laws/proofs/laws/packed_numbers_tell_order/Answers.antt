use Rattle.std.proofs.Common.{◌≡◌, true}
use Rattle.label_laws.proofs.Digits.{numbers_compare, number_sign}
use Rattle.label_laws.proofs.Packed.{packed_sign, fixed_compare}
use Rattle.label_laws.proofs.laws.packed_numbers_tell_order.Goals as goal

pub returns-clause-compare : goal.returns-clause-compare
returns-clause-compare a = numbers_compare

pub returns-clause-signs : goal.returns-clause-signs
returns-clause-signs a = number_sign

pub returns-clause-column_signs : goal.returns-clause-column_signs
returns-clause-column_signs a base size keep occurs digit = packed_sign base size keep (λ row x. occurs row x ≡ true) digit

pub returns-clause-columns : goal.returns-clause-columns
returns-clause-columns a base size keep occurs digit = fixed_compare base size keep (λ row x. occurs row x ≡ true) digit
