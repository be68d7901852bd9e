use Rattle.std.proofs.Common.{◌≡◌, ◌+◌, ◌<◌, length, ℤ, pos, eqb, of_z, to_z, true, false, not, ap, sym, ◌∙◌, arith, rules, SFits}
use Rattle.std.specs.Int.{w16}
use Rattle.std.proofs.lemmas.Int.{to_z-of_z}
use Rattle.std.proofs.lemmas.Bool.{eqb-true}
use Rattle.quick_label.proofs.ColumnParts.{kept_by_set, rows_below_set, run_more, not_false}
use Rattle.quick_label.proofs.columns.write_number.Goals as goal

pub returns-clause-below : goal.returns-clause-below
returns-clause-below c = λ size low h. rows_below_set size c.args.end c.args.row c.args.rows.now h c.requires.room low

pub returns-clause-kept : goal.returns-clause-kept
returns-clause-kept c = kept_by_set c.args.end c.args.row _ c.args.rows.now c.args.values.now

pub returns-clause-sum : goal.returns-clause-sum
returns-clause-sum c = λ w start order.
    let fits : SFits w16 c.args.number = search rules in
    let read = to_z-of_z w16 c.args.number fits in
    run_more w start c.args.end c.args.row _ c.args.number _ _ c.args.rows.now c.args.values.now order c.requires.room (omega arith) read
    (λ none. sym read ∙ ap (to_z w16) (eqb-true _ _ (not_false _ none))) c.from.ensures
