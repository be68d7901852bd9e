use Rattle.std.proofs.Common.{◌%◌, ◌+◌, ◌-◌, ◌^◌, Bool, sym, subst}
use Rattle.std.specs.Prelude.{◌+ℤ◌}
use Rattle.label_laws.specs.Congruence.{IsCongruent}
use Rattle.label_laws.specs.Totals.{turned_whole}
use Rattle.quick_label.proofs.WeightRows.{cut-plus, cut-minus}
use Rattle.quick_label.proofs.weights.turned_sum.Goals as goal

pub returns-then-negative : goal.returns-then-negative
returns-then-negative c a b h k =
    subst (λ (s : Bool). IsCongruent (2 ^ 64) (a +ℤ turned_whole s b) ((c.args.x + (2 ^ 64 - c.args.y)) % 2 ^ 64)) (sym c.if-negative.true)
    (cut-minus a b c.args.x c.args.y c.ranges.y.fits h k)

pub returns-else-negative : goal.returns-else-negative
returns-else-negative c a b h k =
    subst (λ (s : Bool). IsCongruent (2 ^ 64) (a +ℤ turned_whole s b) ((c.args.x + c.args.y) % 2 ^ 64)) (sym c.if-negative.false)
    (cut-plus a b c.args.x c.args.y h k)
