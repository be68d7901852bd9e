use Rattle.std.proofs.Common.{ℕ, ◌≡◌, sym, ◌∙◌, inl, inr, arith, subst}
use Rattle.std.proofs.lemmas.Bool.{cases_eq}
use Rattle.tc_ring.specs.Root2.{surd_of}
use Rattle.channel_rep.specs.Cells.{cell_of}
use Rattle.coset_label.specs.Scratch.{cell_at}
use Rattle.coset_label.proofs.SameLabels.{told_same}
use Rattle.coset_label.proofs.same.same_row.Goals as goal

pub loop-place-preserved : goal.loop-place-preserved
loop-place-preserved c = λ place l.
    let here : cell_at (cell_of c.args.x.now) c.args.x_negative.now c.args.x_order.now c.loop-place.place ≡ cell_at (cell_of c.args.y.now) c.args.y_negative.now c.args.y_order.now c.loop-place.place =
    sym c.cell_at_place.ensures ∙ told_same (surd_of c.cell_at_place.result) (surd_of c.cell_at_place-in-loop-place.result) c.if-ne.ensures ∙ c.cell_at_place-in-loop-place.ensures in
    elim (cases_eq place c.loop-place.place) [
      | inl e ↦ subst (λ (k : ℕ). cell_at (cell_of c.args.x.now) c.args.x_negative.now c.args.x_order.now k ≡ cell_at (cell_of c.args.y.now) c.args.y_negative.now c.args.y_order.now k) (sym e) here
      | inr d ↦ c.loop-place.invariant place (omega arith)
    ]
