use Rattle.std.proofs.Common.{◌≡◌, ◌+◌, ◌-◌, ◌*◌, ap, ◌∙◌, arith}
use Rattle.tc_ring.specs.Surds.{surd_times, root2_surd}
use Rattle.channel_rep.proofs.Places.{lent_row, row_given_back, changes_row_to}
use Rattle.channel_rep.proofs.rows.scale_row.Goals as goal

pub returns-clause-row : goal.returns-clause-row
returns-clause-row c =
    let long : (c.args.row + 1) * c.args.size - c.args.row * c.args.size ≡ c.args.size = omega arith in
    let row = lent_row c.args.size c.args.row _ c.args.cells.now c.requires.below c.requires.whole long in
    changes_row_to _ _ _ _ _ _ (λ k l. c.multiply_by_root2.ensures k (omega (arith, row.row_length)) ∙ ap (surd_times root2_surd) (row.cells_of_row k l))
    (row_given_back c.args.size c.args.row _ c.args.cells.now c.requires.below c.requires.whole long _ (c.multiply_by_root2.auto.row ∙ row.row_length))
