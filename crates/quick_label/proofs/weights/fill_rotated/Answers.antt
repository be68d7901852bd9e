use Rattle.std.proofs.Common.{arith, false}
use Rattle.pauli_basis.specs.Products.{product_code}
use Rattle.label_laws.specs.Folds.{rotated_weights}
use Rattle.quick_label.specs.Letters.{IsWeight}
use Rattle.quick_label.proofs.WeightRows.{rows_below, weight_at}
use Rattle.quick_label.proofs.weights.fill_rotated.Goals as goal

pub loop-row-preserved : goal.loop-row-preserved
loop-row-preserved c n w commuting negative are =
    rows_below (λ k v s. IsWeight (rotated_weights n false c.args.p w 0 k) v s) c.loop-row.wholes c.loop-row.parts c.loop-row.row _ _ (omega arith) (omega arith)
    (c.rotated_weight-whole.ensures n c.args.p c.loop-row.row w (commuting c.loop-row.row (omega arith)) (negative c.loop-row.row (omega arith))
    (weight_at _ w _ _ _ _ are c.wholes-old_wholes.ensures c.parts-old_parts.ensures.value c.loop-row.row (omega arith))
    (weight_at _ w _ _ _ _ are c.wholes-old_wholes.ensures c.parts-old_parts.ensures.value (product_code c.args.p c.loop-row.row) (c.requires.closed c.loop-row.row (omega arith))))
    (c.loop-row.invariant n w commuting negative are)

pub returns : goal.returns
returns c n w commuting negative are = record {
  wholes = λ row l. (c.loop-row.invariant n w commuting negative are row (omega arith)).b;
  parts = λ row l. (c.loop-row.invariant n w commuting negative are row (omega arith)).a;
}
