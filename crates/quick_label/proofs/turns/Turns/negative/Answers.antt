use Rattle.std.proofs.Common.{◌≡◌, ℕ, ◌*◌, ◌^◌, ◌∙◌, ap, arith}
use Rattle.pauli_basis.specs.Products.{anti_sign}
use Rattle.quick_label.specs.Letters.{HeldTurns}
use Rattle.quick_label.proofs.LetterRows.{rows_end, rows_few, rows_long, row_at}
use Rattle.quick_label.proofs.turns.Turns.negative.Goals as goal

pub overflow_mul-result : goal.overflow_mul-result
overflow_mul-result c =
    let same : 4 ^ c.self.inside.n ≡ 4 ^ c.args.self.now.qubits = ap (λ (t : HeldTurns). 4 ^ t.qubits) c.self.view_is in
    omega (arith, rows_few c.args.letter c.codes-size.result (omega arith) c.codes-size.ensures.few)

pub overflow_mul-result-2 : goal.overflow_mul-result-2
overflow_mul-result-2 c =
    let same : 4 ^ c.self.inside.n ≡ 4 ^ c.args.self.now.qubits = ap (λ (t : HeldTurns). 4 ^ t.qubits) c.self.view_is in
    omega (arith, rows_few c.args.letter c.codes-size.result (omega arith) c.codes-size.ensures.few)

pub slice_bounds-result-end : goal.slice_bounds-result-end
slice_bounds-result-end c =
    let same : 4 ^ c.self.inside.n ≡ 4 ^ c.args.self.now.qubits = ap (λ (t : HeldTurns). 4 ^ t.qubits) c.self.view_is in
    omega (arith, rows_end c.args.letter c.codes-size.result (omega arith), ap (λ (s : ℕ). s * s) c.codes-size.ensures.value, c.deref.ensures.len, c.self.invariant.negative_long)

pub returns-clause-long : goal.returns-clause-long
returns-clause-long c =
    let same : 4 ^ c.self.inside.n ≡ 4 ^ c.args.self.now.qubits = ap (λ (t : HeldTurns). 4 ^ t.qubits) c.self.view_is in
    rows_long c.deref.result.now c.self.inside.negative.items c.args.letter c.codes-size.result c.self.inside.n (omega arith) c.codes-size.ensures.value c.deref.ensures.value c.self.invariant.negative_long ∙ same

pub returns-clause-value : goal.returns-clause-value
returns-clause-value c row l =
    let same : 4 ^ c.self.inside.n ≡ 4 ^ c.args.self.now.qubits = ap (λ (t : HeldTurns). 4 ^ t.qubits) c.self.view_is in
    row_at c.deref.result.now c.self.inside.negative.items c.args.letter c.codes-size.result c.self.inside.n row (omega arith) c.codes-size.ensures.value c.deref.ensures.value
    ∙ c.self.invariant.turns.signs c.args.letter row (omega arith) (omega arith)
    ∙ ap (λ (t : HeldTurns). anti_sign t.qubits c.args.letter row) c.self.view_is
