use Rattle.std.proofs.Common.{◌≡◌, pos, ◌∙◌, arith, rules, SFits}
use Rattle.std.specs.Int.{w128}
use Rattle.std.proofs.lemmas.Int.{to_z-of_z}
use Rattle.quick_label.proofs.SetOne.{one_more}
use Rattle.quick_label.proofs.front.number_columns.Goals as goal

pub loop-column-preserved : goal.loop-column-preserved
loop-column-preserved c = λ x y z halves.
    let column = c.loop-column.column in
    let here = halves column (omega arith) in
    let fits : SFits w128 c.number_of.result = search rules in
    one_more (λ k number. number ≡ z k) c.loop-column.numbers column _ (pos 0) (omega arith) (c.loop-column.invariant x y z halves)
    (to_z-of_z w128 c.number_of.result fits
    ∙ c.number_of.ensures (x column) (y column) (z column) here.is_high here.is_low here.high_fits here.low_fits here.sum)

pub returns-clause-numbers : goal.returns-clause-numbers
returns-clause-numbers c = λ x y z halves column l. c.loop-column.invariant x y z halves column (omega arith)
