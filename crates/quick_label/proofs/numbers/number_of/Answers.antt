use Rattle.std.proofs.Common.{◌∙◌, ap}
use Rattle.std.specs.Prelude.{pos, ◌*ℤ◌, if◌then◌else◌}
use Rattle.quick_label.proofs.WholeNumbers.{number_of_halves, halved_number}
use Rattle.quick_label.proofs.numbers.number_of.Goals as goal

pub returns-then-halve : goal.returns-then-halve
returns-then-halve c x y z hx hy few_x few_y e =
    halved_number x y z _ few_x few_y
    (number_of_halves x y c.args.high c.args.low c.cast_signed.result c.from.result c.cast_signed-2.result c.from-2.result
    c.ranges.high.fits c.ranges.low.fits hx hy few_x few_y c.cast_signed.ensures c.from.ensures c.cast_signed-2.ensures c.from-2.ensures)
    (e ∙ ap (λ b. if b then pos 2 *ℤ z else z) c.if-halve.true)

pub returns-else-halve : goal.returns-else-halve
returns-else-halve c x y z hx hy few_x few_y e =
    number_of_halves x y c.args.high c.args.low c.cast_signed.result c.from.result c.cast_signed-2.result c.from-2.result
    c.ranges.high.fits c.ranges.low.fits hx hy few_x few_y c.cast_signed.ensures c.from.ensures c.cast_signed-2.ensures c.from-2.ensures
    ∙ e ∙ ap (λ b. if b then pos 2 *ℤ z else z) c.if-halve.false
