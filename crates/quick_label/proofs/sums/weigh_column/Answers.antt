use Rattle.std.proofs.Common.{length, ap, sym, ◌∙◌}
use Rattle.quick_label.proofs.RunSums.{column_is}
use Rattle.quick_label.proofs.sums.weigh_column.Goals as goal

pub returns-clause-fold : goal.returns-clause-fold
returns-clause-fold c =
    column_is c.args.columns.now c.args.fold.now c.args.column _ _ _ _ _ _ _ _ _ c.rows-rows.ensures.value c.values-values.ensures.value c.wholes.ensures c.parts.ensures.value c.requires.fold
    (c.parts.ensures.long ∙ sym (ap length c.wholes.ensures)) c.runs-start.ensures.start c.runs-start.ensures.middle c.runs-start.ensures.end c.with_run-wholes.ensures.fold c.with_run.ensures.fold

pub returns-clause-high : goal.returns-clause-high
returns-clause-high c =
    column_is c.args.columns.now c.args.high.now c.args.column _ _ _ _ _ _ _ _ _ c.rows-rows.ensures.value c.values-values.ensures.value c.wholes-2.ensures c.parts-2.ensures.value c.requires.high
    (c.parts-2.ensures.long ∙ sym (ap length c.wholes-2.ensures)) c.runs-start.ensures.start c.runs-start.ensures.middle c.runs-start.ensures.end c.with_run-wholes.ensures.high c.with_run.ensures.high

pub returns-clause-low : goal.returns-clause-low
returns-clause-low c =
    column_is c.args.columns.now c.args.low.now c.args.column _ _ _ _ _ _ _ _ _ c.rows-rows.ensures.value c.values-values.ensures.value c.wholes-3.ensures c.parts-3.ensures.value c.requires.low
    (c.parts-3.ensures.long ∙ sym (ap length c.wholes-3.ensures)) c.runs-start.ensures.start c.runs-start.ensures.middle c.runs-start.ensures.end c.with_run-wholes.ensures.low c.with_run.ensures.low
