use Rattle.std.proofs.Common.{◌≡◌, ◌^◌, ◌<◌, length, slice_index_or, sym, ◌∙◌, subst}
use Rattle.std.proofs.lemmas.List.{with_items_is}
use Rattle.channel_rep.specs.Tables.{SurdTable}
use Rattle.label_laws.specs.Folds.{weights}
use Rattle.label_laws.specs.Sparse.{AreWeights}
use Rattle.quick_label.specs.Folds.{AreFoldBefore}
use Rattle.quick_label.specs.FrontRooms.{AreColumnSums}
use Rattle.quick_label.specs.Numbers.{high_weights, low_weights}
use Rattle.quick_label.specs.Weights.{before_letter}
use Rattle.quick_label.proofs.WeightRows.{not_once}
use Rattle.quick_label.proofs.suffix.weigh_front.Goals as goal

pub returns-then-divisions-eq1-clause-sums : goal.returns-then-divisions-eq1-clause-sums
returns-then-divisions-eq1-clause-sums c = λ m letters letter holds is.
    let n = c.args.n in
    let f = c.args.front.now in
    let span = c.args.class.now.span.items in
    let before = before_letter n c.args.p c.args.divisions in
    record {
      fold_sums = subst (AreColumnSums (4 ^ n) (before (weights (4 ^ n))) m) (sym (with_items_is f.folds c.weigh_columns.new.folds (c.weigh_columns.auto.folds ∙ c.deref_mut.ensures.len)))
          (c.weigh_columns.ensures.folds (4 ^ n) (before (weights (4 ^ n))) m holds (c.take_before-then-divisions-eq1.ensures.are (weights (4 ^ n)) letter c.requires.folds.plain));
      high_sums = subst (AreColumnSums (4 ^ n) (before (high_weights (4 ^ n) span)) m) (sym (with_items_is f.highs c.weigh_columns.new.highs (c.weigh_columns.auto.highs ∙ c.deref_mut-then-divisions-eq1.ensures.len)))
          (c.weigh_columns.ensures.highs (4 ^ n) (before (high_weights (4 ^ n) span)) m holds (c.take_before.ensures.are (high_weights (4 ^ n) span) letter is.high));
      low_sums = subst (AreColumnSums (4 ^ n) (before (low_weights (4 ^ n) span)) m) (sym (with_items_is f.lows c.weigh_columns.new.lows (c.weigh_columns.auto.lows ∙ c.deref_mut-then-divisions-eq1-2.ensures.len)))
          (c.weigh_columns.ensures.lows (4 ^ n) (before (low_weights (4 ^ n) span)) m holds (c.take_before-2.ensures.are (low_weights (4 ^ n) span) letter is.low));
    }

pub returns-clause-sums : goal.returns-clause-sums
returns-clause-sums c = λ m letters letter holds is.
    let n = c.args.n in
    let f = c.args.front.now in
    let span = c.args.class.now.span.items in
    let before = before_letter n c.args.p c.args.divisions in
    let held = c.index.result.now in
    let its : AreFoldBefore n c.args.p held = subst (AreFoldBefore n c.args.p) (sym c.index.ensures) (c.requires.folds.before c.args.p held c.requires.letter) in
    let fold : AreWeights (4 ^ n) (before (weights (4 ^ n))) held.wholes held.parts =
    subst (λ (w : SurdTable). AreWeights (4 ^ n) w held.wholes held.parts) (not_once n c.args.p c.args.divisions (weights (4 ^ n)) c.if-divisions-eq1.false) its.are in
    record {
      fold_sums = subst (AreColumnSums (4 ^ n) (before (weights (4 ^ n))) m) (sym (with_items_is f.folds c.weigh_columns-2.new.folds (c.weigh_columns-2.auto.folds ∙ c.deref_mut-2.ensures.len)))
          (c.weigh_columns-2.ensures.folds (4 ^ n) (before (weights (4 ^ n))) m holds fold);
      high_sums = subst (AreColumnSums (4 ^ n) (before (high_weights (4 ^ n) span)) m) (sym (with_items_is f.highs c.weigh_columns-2.new.highs (c.weigh_columns-2.auto.highs ∙ c.deref_mut-3.ensures.len)))
          (c.weigh_columns-2.ensures.highs (4 ^ n) (before (high_weights (4 ^ n) span)) m holds (c.take_before.ensures.are (high_weights (4 ^ n) span) letter is.high));
      low_sums = subst (AreColumnSums (4 ^ n) (before (low_weights (4 ^ n) span)) m) (sym (with_items_is f.lows c.weigh_columns-2.new.lows (c.weigh_columns-2.auto.lows ∙ c.deref_mut-4.ensures.len)))
          (c.weigh_columns-2.ensures.lows (4 ^ n) (before (low_weights (4 ^ n) span)) m holds (c.take_before-2.ensures.are (low_weights (4 ^ n) span) letter is.low));
    }
