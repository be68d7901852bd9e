use Rattle.std.proofs.Common.{◌≡◌, ℕ, Bool, ◌^◌, sym, ◌∙◌, subst}
use Rattle.std.specs.Prelude.{ℤ, ◌+ℤ◌}
use Rattle.label_laws.specs.Congruence.{IsCongruent}
use Rattle.label_laws.specs.Totals.{turned_whole}
use Rattle.quick_label.proofs.WeightRows.{commuting_weight, turned_weight}
use Rattle.quick_label.proofs.weights.rotated_weight.Goals as goal

with_sign : (x y : ℤ) (b s : Bool) (result : ℕ) → b ≡ s → IsCongruent (2 ^ 64) (x +ℤ turned_whole b y) result → IsCongruent (2 ^ 64) (x +ℤ turned_whole s y) result
with_sign x y b s result e h = subst (λ (t : Bool). IsCongruent (2 ^ 64) (x +ℤ turned_whole t y) result) e h

pub returns-then-commutes : goal.returns-then-commutes
returns-then-commutes c n p row w commuting negative own partner = commuting_weight n p row w _ _ (sym c.if-commutes.true ∙ commuting) own

pub returns : goal.returns
returns c n p row w commuting negative own partner =
    turned_weight n p row w _ _ (sym c.if-commutes.false ∙ commuting)
    (with_sign _ _ _ _ _ negative (c.turned_sum.ensures _ _ own.b partner.b))
    (with_sign _ _ _ _ _ negative (c.turned_sum-2.ensures _ _ own.a partner.a))
