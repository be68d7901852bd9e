use Rattle.std.proofs.Common.{◌≡◌, ℕ, ◌-◌, ◌*◌, ◌^◌, ◌<◌, length, slice_index, subst, arith, length-set}
use Rattle.std.specs.Prelude.{pos}
use Rattle.label_laws.specs.Congruence.{IsCongruent}
use Rattle.label_laws.specs.Folds.{weight}
use Rattle.quick_label.specs.Letters.{IsWeight}
use Rattle.label_laws.proofs.Congruences.{congruent_self}
use Rattle.quick_label.proofs.WeightRows.{fold_step}
use Rattle.quick_label.proofs.weights.fill_fold.Goals as goal

pub loop-row-init : goal.loop-row-init
loop-row-init c =
    let none : 0 ≡ length c.args.wholes.now - length c.args.wholes.now = omega arith in
    record {
      low = omega arith;
      power = subst (λ (j : ℕ). IsCongruent (2 ^ 64) (pos (1000003 ^ (2 * j))) 1) none (congruent_self (2 ^ 64) 1);
      done = λ k m l. absurd (omega arith);
    }

pub loop-row-preserved : goal.loop-row-preserved
loop-row-preserved c =
    let step = fold_step c.loop-row.wholes c.loop-row.parts c.loop-row.row c.loop-row.power _ c.loop-row-test.true c.loop-row.invariant.low (omega arith) (length-set {A = ℕ} _ _ _) c.loop-row.invariant.power c.loop-row.invariant.done in
    record { low = omega (arith, length-set {A = ℕ}); power = step.0; done = step.1 }

pub returns : goal.returns
returns c =
    let size : length c.loop-row.wholes ≡ length c.args.wholes.now = c.loop-row.auto.wholes in
    let at = λ (row : ℕ) (l : row < length c.args.wholes.now).
    subst (λ (n : ℕ). IsWeight (weight n row) (slice_index c.loop-row.wholes row) (slice_index c.loop-row.parts row)) size (c.loop-row.invariant.done row (omega arith) (omega arith)) in
    record { wholes = λ row l. (at row l).b; parts = λ row l. (at row l).a }
