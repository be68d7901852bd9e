use Rattle.std.proofs.Common.{◌≡◌, ◌+◌, ◌-◌, ◌*◌, ap, ◌∙◌, arith}
use Rattle.channel_rep.specs.Tables.{signed}
use Rattle.channel_rep.specs.Cells.{cell_of}
use Rattle.channel_rep.proofs.Places.{lent_rows, given_back, changes_pair_to}
use Rattle.channel_rep.proofs.rows.swap_pair.Goals as goal

pub returns-clause-pair : goal.returns-clause-pair
returns-clause-pair c =
    let long : (c.args.low + 1) * c.args.size - c.args.low * c.args.size ≡ c.args.size = omega arith in
    let rows = lent_rows c.args.size c.args.low c.args.high _ c.args.cells.now c.split_at_mut-front.result.0.now c.split_at_mut-front.result.1.now c.requires.order c.requires.below c.requires.whole c.split_at_mut-front.ensures.front c.split_at_mut-front.ensures.back long in
    changes_pair_to _ _ _ _ _ _ _ _ _
    (λ k l. c.negate_if.ensures k (omega (arith, rows.low_length)) ∙ ap (signed c.args.low_negative) (ap (λ xs. cell_of xs k) c.swap_with_slice.ensures.after ∙ rows.high_cells k l))
    (λ k l. c.negate_if-2.ensures k (omega (arith, rows.high_length)) ∙ ap (signed c.args.high_negative) (ap (λ xs. cell_of xs k) c.swap_with_slice.ensures.other_after ∙ rows.low_cells k l))
    (given_back c.args.size c.args.low c.args.high _ c.args.cells.now c.split_at_mut-front.result.0.now c.split_at_mut-front.result.1.now c.requires.order c.requires.below c.requires.whole c.split_at_mut-front.ensures.front c.split_at_mut-front.ensures.back long _ _ (c.negate_if.auto.row ∙ c.swap_with_slice.auto.self ∙ rows.low_length) (c.negate_if-2.auto.row ∙ c.swap_with_slice.auto.other ∙ rows.high_length))
