use Rattle.std.proofs.Common.{ℕ, slice_index, sym, ◌∙◌, subst, arith, get_or-set_other}
use Rattle.tc_ring.specs.Surds.{Surd, surd_times, root2_surd}
use Rattle.quick_label.specs.Letters.{IsWeight}
use Rattle.quick_label.proofs.WeightRows.{rows_below, root2_weight}
use Rattle.quick_label.proofs.weights.multiply_by_root2.Goals as goal

pub loop-row-preserved : goal.loop-row-preserved
loop-row-preserved c = record {
  wholes = λ k l. get_or-set_other c.loop-row.wholes c.loop-row.row k _ 0 (λ e. absurd (omega arith)) ∙ c.loop-row.invariant.wholes k (omega arith);
  parts = λ k l. get_or-set_other c.loop-row.parts c.loop-row.row k _ 0 (λ e. absurd (omega arith)) ∙ c.loop-row.invariant.parts k (omega arith);
  done =
      rows_below
      (λ k v s. (x : Surd) → IsWeight x (slice_index c.args.wholes.now k) (slice_index c.args.parts.now k) → IsWeight (surd_times root2_surd x) v s)
      c.loop-row.wholes c.loop-row.parts c.loop-row.row _ _ (omega arith) (omega arith)
      (λ x h. root2_weight x (slice_index c.loop-row.wholes c.loop-row.row) (slice_index c.loop-row.parts c.loop-row.row)
      (subst (λ (v : ℕ). IsWeight x v (slice_index c.loop-row.parts c.loop-row.row)) (sym (c.loop-row.invariant.wholes c.loop-row.row (omega arith)))
      (subst (IsWeight x (slice_index c.args.wholes.now c.loop-row.row)) (sym (c.loop-row.invariant.parts c.loop-row.row (omega arith))) h)))
      c.loop-row.invariant.done;
}

pub returns : goal.returns
returns c w are = record {
  wholes = λ row l. (c.loop-row.invariant.done row (omega (arith, l)) (w 0 row) (record { b = are.wholes row l; a = are.parts row l })).b;
  parts = λ row l. (c.loop-row.invariant.done row (omega (arith, l)) (w 0 row) (record { b = are.wholes row l; a = are.parts row l })).a;
}
