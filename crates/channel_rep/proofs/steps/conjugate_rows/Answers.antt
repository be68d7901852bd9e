use Rattle.std.proofs.Common.{◌≡◌, ◌+◌, ◌-◌, ◌*◌, ◌^◌, ℕ, length, ap, sym, ◌∙◌, arith}
use Rattle.pauli_basis.specs.Products.{Signed}
use Rattle.channel_rep.proofs.Places.{lent_row}
use Rattle.channel_rep.proofs.Moves.{moved_more}
use Rattle.channel_rep.proofs.steps.conjugate_rows.Goals as goal

pub loop-row-preserved : goal.loop-row-preserved
loop-row-preserved c =
    let size = c.codes-size.result in
    let row = c.loop-row.row in
    let by = c.args.by.now in
    let e : size ≡ 4 ^ by.qubits = c.codes-size.ensures ∙ ap (λ (n : ℕ). 4 ^ n) c.qubits.ensures.value in
    let long : (row + 1) * size - row * size ≡ size = omega arith in
    let whole : length c.args.from.now ≡ size * size = c.requires.as_long ∙ ap (λ (k : ℕ). k * k) (sym e) in
    let lent = lent_row size row _ c.args.from.now c.loop-row-test.true whole long in
    record {
      whole = c.put_row.ensures.whole ∙ ap (λ (k : ℕ). k * k) e;
      moved = moved_more by size row c.code-new_row.result c.is_negative.result c.args.from.now c.loop-row.cells c.put_row.new.cells _ c.qubits.ensures.valid e (omega arith)
          (c.code-new_row.ensures ∙ ap (λ (s : Signed). s.code) c.image-image.ensures) (c.is_negative.ensures ∙ ap (λ (s : Signed). s.is_negative) c.image-image.ensures) lent.cells_of_row c.loop-row.invariant.moved c.put_row.ensures.row;
    }
