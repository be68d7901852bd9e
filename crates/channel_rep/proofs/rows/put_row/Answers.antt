use Rattle.std.proofs.Common.{◌≡◌, ◌+◌, ◌-◌, ◌*◌, ap, ◌∙◌, arith}
use Rattle.channel_rep.specs.Tables.{signed}
use Rattle.channel_rep.specs.Cells.{cell_of}
use Rattle.channel_rep.proofs.Places.{lent_row, row_given_back, changes_row_to}
use Rattle.channel_rep.proofs.rows.put_row.Goals as goal

pub returns-clause-row : goal.returns-clause-row
returns-clause-row c =
    let long : (c.args.row + 1) * c.args.size - c.args.row * c.args.size ≡ c.args.size = omega arith in
    let row = lent_row c.args.size c.args.row _ c.args.cells.now c.requires.below c.requires.whole long in
    changes_row_to _ _ _ _ _ _ (λ k l. c.negate_if.ensures k (omega (arith, c.copy_from_slice.auto.self, row.row_length)) ∙ ap (λ xs. signed c.args.negative (cell_of xs k)) c.copy_from_slice.ensures.after)
    (row_given_back c.args.size c.args.row _ c.args.cells.now c.requires.below c.requires.whole long _ (c.negate_if.auto.row ∙ c.copy_from_slice.auto.self ∙ row.row_length))
