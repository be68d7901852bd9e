use Rattle.std.proofs.Common.{refl, arith}
use Rattle.quick_label.proofs.WeightRows.{inside_digit, outside_digit}
use Rattle.quick_label.proofs.weights.digit_weight.Goals as goal

pub returns-then-behind-last : goal.returns-then-behind-last
returns-then-behind-last c = outside_digit c.args.behind c.args.last 0 0 (λ l. absurd (omega arith)) refl refl

pub returns-then-digits-ge8 : goal.returns-then-digits-ge8
returns-then-digits-ge8 c = outside_digit c.args.behind c.args.last 0 0 (λ l. omega arith) refl refl

pub returns : goal.returns
returns c = inside_digit c.args.behind c.args.last _ _ (omega arith) (omega arith) refl refl
