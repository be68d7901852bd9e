use Rattle.std.proofs.Common.{length, subst, arith}
use Rattle.channel_rep.specs.Tables.{SurdTable}
use Rattle.label_laws.specs.Sparse.{AreWeights}
use Rattle.quick_label.proofs.WeightRows.{not_once, put_back}
use Rattle.quick_label.proofs.weights.Weights.take_before.Goals as goal

pub returns-else-divisions-eq1-clause-are : goal.returns-else-divisions-eq1-clause-are
returns-else-divisions-eq1-clause-are c n w commuting negative are =
    put_back _ _ _ _ _ _ c.fill_rotated.new.wholes c.fill_rotated.new.parts (omega (arith, c.deref_mut.ensures.len, c.fill_rotated.auto.wholes)) (omega (arith, c.deref_mut-2.ensures.len, c.fill_rotated.auto.parts))
    (subst (λ (t : SurdTable). AreWeights (length c.args.weights.now.wholes) t c.fill_rotated.new.wholes c.fill_rotated.new.parts) (not_once n c.args.p c.args.divisions w c.if-divisions-eq1.false)
    (c.fill_rotated.ensures n w commuting negative are))
