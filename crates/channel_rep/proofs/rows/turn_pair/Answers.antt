use Rattle.std.proofs.Common.{◌≡◌, ◌+◌, ◌-◌, ◌*◌, ◌∙◌, arith}
use Rattle.tc_ring.specs.Surds.{surd_plus}
use Rattle.channel_rep.specs.Cells.{entries}
use Rattle.channel_rep.proofs.Places.{lent_rows, given_back, changes_pair_to}
use Rattle.channel_rep.proofs.Signs.{signed-true, signed-false, signed-not_true, signed-not_false}
use Rattle.channel_rep.proofs.rows.turn_pair.Goals as goal

pub returns-then-low_first-clause-pair : goal.returns-then-low_first-clause-pair
returns-then-low_first-clause-pair c =
    let long : (c.args.low + 1) * c.args.size - c.args.low * c.args.size ≡ c.args.size = omega arith in
    let rows = lent_rows c.args.size c.args.low c.args.high _ c.args.cells.now c.split_at_mut-front.result.0.now c.split_at_mut-front.result.1.now c.requires.order c.requires.below c.requires.whole c.split_at_mut-front.ensures.front c.split_at_mut-front.ensures.back long in
    let low = entries c.args.size c.args.cells.now c.args.low in
    let high = entries c.args.size c.args.cells.now c.args.high in
    changes_pair_to _ _ _ _ _ _ _ _ _
    (λ k l. c.subtract_and_add.ensures.x k (omega (arith, rows.low_length)) ∙ (λ i. surd_plus (rows.low_cells k l i) (signed-true c.args.low_first (rows.high_cells k l i) c.if-low_first.true i)))
    (λ k l. c.subtract_and_add.ensures.y k (omega (arith, rows.low_length)) ∙ (λ i. surd_plus (rows.high_cells k l i) (signed-not_true c.args.low_first (rows.low_cells k l i) c.if-low_first.true i)))
    (given_back c.args.size c.args.low c.args.high _ c.args.cells.now c.split_at_mut-front.result.0.now c.split_at_mut-front.result.1.now c.requires.order c.requires.below c.requires.whole c.split_at_mut-front.ensures.front c.split_at_mut-front.ensures.back long _ _ (c.subtract_and_add.auto.x ∙ rows.low_length) (c.subtract_and_add.auto.y ∙ rows.high_length))

pub returns-else-low_first-clause-pair : goal.returns-else-low_first-clause-pair
returns-else-low_first-clause-pair c =
    let long : (c.args.low + 1) * c.args.size - c.args.low * c.args.size ≡ c.args.size = omega arith in
    let rows = lent_rows c.args.size c.args.low c.args.high _ c.args.cells.now c.split_at_mut-front.result.0.now c.split_at_mut-front.result.1.now c.requires.order c.requires.below c.requires.whole c.split_at_mut-front.ensures.front c.split_at_mut-front.ensures.back long in
    changes_pair_to _ _ _ _ _ _ _ _ _
    (λ k l. c.subtract_and_add-else-low_first.ensures.y k (omega (arith, rows.high_length)) ∙ (λ i. surd_plus (rows.low_cells k l i) (signed-false c.args.low_first (rows.high_cells k l i) c.if-low_first.false i)))
    (λ k l. c.subtract_and_add-else-low_first.ensures.x k (omega (arith, rows.high_length)) ∙ (λ i. surd_plus (rows.high_cells k l i) (signed-not_false c.args.low_first (rows.low_cells k l i) c.if-low_first.false i)))
    (given_back c.args.size c.args.low c.args.high _ c.args.cells.now c.split_at_mut-front.result.0.now c.split_at_mut-front.result.1.now c.requires.order c.requires.below c.requires.whole c.split_at_mut-front.ensures.front c.split_at_mut-front.ensures.back long _ _ (c.subtract_and_add-else-low_first.auto.y ∙ rows.low_length) (c.subtract_and_add-else-low_first.auto.x ∙ rows.high_length))
