use Rattle.std.proofs.Common.{◌≡◌, ◌+◌, ◌-◌, ◌*◌, arith}
use Rattle.channel_rep.proofs.Places.{lent_row, row_given_back, changes_row_to}
use Rattle.channel_rep.proofs.Lines.{identity_line, identity_line_length}
use Rattle.channel_rep.proofs.channel.write_identity_row.Goals as goal

pub returns-clause-row : goal.returns-clause-row
returns-clause-row c =
    let long : (c.args.row + 1) * c.args.size - c.args.row * c.args.size ≡ c.args.size = omega arith in
    let row = lent_row c.args.size c.args.row _ c.args.cells.now c.requires.below c.requires.whole long in
    let zeros = c.fill.ensures.after (λ y h. h) in
    changes_row_to _ _ _ _ _ _ (identity_line c.args.size c.args.row _ c.fill.new.self zeros row.row_length c.requires.below)
    (row_given_back c.args.size c.args.row _ c.args.cells.now c.requires.below c.requires.whole long _ (identity_line_length c.args.size c.args.row _ c.fill.new.self zeros row.row_length))
