use Rattle.std.proofs.Common.{◌≡◌, ℕ, ◌+◌, ◌*◌, ◌/◌, ◌%◌, ◌^◌, ◌<◌, ◌≤◌, arith, ap, ◌∙◌}
use Rattle.std.proofs.lemmas.Nat.{mul-add-lt, div-mul-add, mod-mul-add}
use Rattle.ring_laws.specs.Matrix.{identity}
use Rattle.ring_laws.specs.Cyclotomic.{cyclotomics}
use Rattle.tc_circuit.proofs.matrix.identity_cells.Goals as goal

at_place : (size n row column : ℕ) → size ≡ 2 ^ n → column < 2 ^ n → identity cyclotomics ((row * 2 ^ n + column) / size) ((row * 2 ^ n + column) % size) ≡ identity cyclotomics row column
at_place size n row column e l =
    let quotient : (row * 2 ^ n + column) / size ≡ row = ap (λ (s : ℕ). (row * 2 ^ n + column) / s) e ∙ div-mul-add row (2 ^ n) column l in
    let remainder : (row * 2 ^ n + column) % size ≡ column = ap (λ (s : ℕ). (row * 2 ^ n + column) % s) e ∙ mod-mul-add row (2 ^ n) column l in
    ap (λ (q : ℕ). identity cyclotomics q ((row * 2 ^ n + column) % size)) quotient ∙ ap (identity cyclotomics row) remainder

inside : (size n row column place : ℕ) → size ≡ 2 ^ n → row < 2 ^ n → column < 2 ^ n → size * size ≤ place → row * 2 ^ n + column < place
inside size n row column place e l l' h = omega (arith, mul-add-lt row (2 ^ n) column (2 ^ n) l l', ap (λ (s : ℕ). s * s) e)

pub returns-clause-identity : goal.returns-clause-identity
returns-clause-identity c = λ row column l l'.
    c.loop-place.invariant.done (row * 2 ^ c.args.n + column) (inside c.states-size.result c.args.n row column c.loop-place.place c.states-size.ensures l l' c.loop-place-test.false)
    ∙ at_place c.states-size.result c.args.n row column c.states-size.ensures l'
