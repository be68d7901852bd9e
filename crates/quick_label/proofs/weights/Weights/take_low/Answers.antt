use Rattle.std.proofs.Common.{arith}
use Rattle.quick_label.proofs.WeightRows.{low_digits, put_back}
use Rattle.quick_label.proofs.weights.Weights.take_low.Goals as goal

pub returns-clause-are : goal.returns-clause-are
returns-clause-are c span are =
    put_back _ _ _ _ _ _ c.fill_digits.new.wholes c.fill_digits.new.parts (omega (arith, c.deref_mut.ensures.len, c.fill_digits.auto.wholes)) (omega (arith, c.deref_mut-2.ensures.len, c.fill_digits.auto.parts))
    (low_digits c.args.blocks.now.size span c.args.blocks.now.behind c.fill_digits.new.wholes c.fill_digits.new.parts are.behind c.fill_digits.ensures)
