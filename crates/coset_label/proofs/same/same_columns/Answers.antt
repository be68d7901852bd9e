use Rattle.std.proofs.Common.{ℕ, ◌≡◌, ◌<◌, ◌^◌, length, refl, sym, ◌∙◌, inl, inr, subst, arith}
use Rattle.std.proofs.lemmas.Bool.{cases_eq, true≢false}
use Rattle.coset_label.specs.Scratch.{placed_cell}
use Rattle.coset_label.proofs.SameLabels.{columns_by_cells, small_row, cell_of_row}
use Rattle.coset_label.proofs.same.same_columns.Goals as goal

pub same_row-requires-clause-x_small : goal.same_row-requires-clause-x_small
same_row-requires-clause-x_small c = small_row _ c.row.ensures.small

pub same_row-requires-clause-y_small : goal.same_row-requires-clause-y_small
same_row-requires-clause-y_small c = small_row _ c.row-in-loop-row.ensures.small

pub returns-then-not-same_row : goal.returns-then-not-same_row
returns-then-not-same_row c = (
  λ t. absurd (true≢false (sym t)),
  λ e. c.if-not-same_row.ensures.1 (λ place l.
      let here : place < 4 ^ c.args.x.now.qubits = subst (λ (n : ℕ). place < n) c.requires.x.places l in
      let there : place < 4 ^ c.args.y.now.qubits = subst (λ (n : ℕ). place < 4 ^ n) c.requires.qubits here in
      cell_of_row c.args.x.now c.row.result.now c.loop-row.row c.args.x_negative.now c.args.x_order.now place c.row.ensures.cells c.requires.x here
      ∙ (columns_by_cells c.args.x.now c.args.y.now c.args.x_negative.now c.args.y_negative.now c.args.x_order.now c.args.y_order.now c.requires.qubits c.requires.x c.requires.y).0 e c.loop-row.row place (omega arith) here
      ∙ sym (cell_of_row c.args.y.now c.row-in-loop-row.result.now c.loop-row.row c.args.y_negative.now c.args.y_order.now place c.row-in-loop-row.ensures.cells c.requires.y there)),
)

pub loop-row-preserved : goal.loop-row-preserved
loop-row-preserved c = λ row place r l. elim (cases_eq row c.loop-row.row) [
  | inl e ↦ (
      let there : place < 4 ^ c.args.y.now.qubits = subst (λ (n : ℕ). place < 4 ^ n) c.requires.qubits l in
      let inside : place < length c.args.x_order.now = subst (λ (n : ℕ). place < n) (sym c.requires.x.places) l in
      subst (λ (k : ℕ). placed_cell c.args.x.now c.args.x_negative.now c.args.x_order.now k place ≡ placed_cell c.args.y.now c.args.y_negative.now c.args.y_order.now k place) (sym e)
      (sym (cell_of_row c.args.x.now c.row.result.now c.loop-row.row c.args.x_negative.now c.args.x_order.now place c.row.ensures.cells c.requires.x l)
      ∙ c.if-not-same_row.ensures.0 refl place inside
      ∙ cell_of_row c.args.y.now c.row-in-loop-row.result.now c.loop-row.row c.args.y_negative.now c.args.y_order.now place c.row-in-loop-row.ensures.cells c.requires.y there))
  | inr d ↦ c.loop-row.invariant row place (omega arith) l
]

pub returns : goal.returns
returns c = (
  λ _. (columns_by_cells c.args.x.now c.args.y.now c.args.x_negative.now c.args.y_negative.now c.args.x_order.now c.args.y_order.now c.requires.qubits c.requires.x c.requires.y).1
      (λ row place r l. c.loop-row.invariant row place (omega arith) l),
  λ _. refl,
)
