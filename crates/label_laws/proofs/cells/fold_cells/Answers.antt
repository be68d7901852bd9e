use Rattle.std.proofs.Common.{◌≡◌, ℕ, suc, ◌+◌, ◌*◌, ◌%◌, ◌^◌, slice_index, ap, sym, ◌∙◌, subst, arith}
use Rattle.tc_ring.specs.Surds.{Surd}
use Rattle.channel_rep.specs.Cells.{cell_of}
use Rattle.label_laws.specs.Congruence.{IsCongruent}
use Rattle.label_laws.proofs.SparseSums.{open_from, sum_to, sum_more, sum_all, part_more, step_more, congruent_cast, none_summed, weighed_to}
use Rattle.label_laws.proofs.cells.fold_cells.Goals as goal

pub loop-k-init : goal.loop-k-init
loop-k-init c size w m column stored weights = none_summed w m column

pub loop-k-preserved : goal.loop-k-preserved
loop-k-preserved c size w m column stored weights =
    let k = c.loop-k.k in
    let row = slice_index c.args.rows.now k in
    let x = cell_of c.args.cells.now k in
    let small = c.requires.small k (omega (arith, c.requires.long, c.loop-k-test.true)) in
    let low = stored.below k c.loop-k-test.true in
    let next : suc k ≡ k + 1 = omega arith in
    subst (λ (s : Surd). IsCongruent (2 ^ 64) s.b (new_sum c))
    (sym (ap (λ j. sum_to w m column (open_from c.args.rows.now j)) (sym next) ∙ sum_more size m column c.args.rows.now c.args.cells.now stored w k c.loop-k-test.true))
    (subst (λ z. IsCongruent (2 ^ 64) z (new_sum c)) (sym (part_more (sum_to w m column (open_from c.args.rows.now k)) (w 0 row) x))
    (step_more _ _ _ x.a x.b c.loop-k.sum _ _ _ _ (c.loop-k.invariant size w m column stored weights) (weights.wholes row low) (weights.parts row low)
    (congruent_cast x.a _ small.low_a small.high_a c.cast_unsigned.ensures) (congruent_cast x.b _ small.low_b small.high_b c.cast_unsigned-in-loop-k.ensures)))
  where
    new_sum : goal.After-cast_unsigned-in-loop-k → ℕ
    new_sum c =
        ((c.loop-k.sum + slice_index c.args.whole_weights.now (slice_index c.args.rows.now c.loop-k.k) * c.cast_unsigned.result % 2 ^ 64) % 2 ^ 64
        + slice_index c.args.part_weights.now (slice_index c.args.rows.now c.loop-k.k) * c.cast_unsigned-in-loop-k.result % 2 ^ 64) % 2 ^ 64

pub returns : goal.returns
returns c size w m column stored weights =
    subst (λ z. IsCongruent (2 ^ 64) z c.loop-k.sum) (sym (weighed_to size w m column))
    (subst (λ (s : Surd). IsCongruent (2 ^ 64) s.b c.loop-k.sum) (sym (sum_all size m column c.args.rows.now c.args.cells.now stored w c.loop-k.k (omega arith))) (c.loop-k.invariant size w m column stored weights))
