use Rattle.coset_label.proofs.ColumnSums.{joined_more}
use Rattle.coset_label.proofs.sums.join_sums.Goals as goal

pub loop-place-preserved : goal.loop-place-preserved
loop-place-preserved c = joined_more c.args.power c.args.sums.now c.args.negative.now c.args.first c.args.order.now c.loop-place.place c.loop-place.f c.with_sign.result c.loop-place-test.true c.loop-place.invariant c.with_sign.ensures
