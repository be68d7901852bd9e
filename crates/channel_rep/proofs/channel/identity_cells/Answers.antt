use Rattle.std.proofs.Common.{◌≡◌, ℕ, ◌+◌, ◌*◌, ◌/◌, ◌%◌, ◌^◌, ◌<◌, ◌≤◌, arith, ap, ◌∙◌}
use Rattle.ring_laws.specs.Matrix.{identity}
use Rattle.tc_ring.specs.Surds.{surds}
use Rattle.channel_rep.proofs.Squares.{places_few, place-lt, row_of_place, column_of_place}
use Rattle.channel_rep.proofs.channel.identity_cells.Goals as goal

at_place : (n size row column : ℕ) → size ≡ 4 ^ n → column < 4 ^ n → identity surds ((row * 4 ^ n + column) / size) ((row * 4 ^ n + column) % size) ≡ identity surds row column
at_place n size row column e l =
    (λ i. identity surds ((row * 4 ^ n + column) / e i) ((row * 4 ^ n + column) % e i))
    ∙ (λ i. identity surds (row_of_place (4 ^ n) row column l i) (column_of_place (4 ^ n) row column l i))

inside : (n size row column place : ℕ) → size ≡ 4 ^ n → row < 4 ^ n → column < 4 ^ n → size * size ≤ place → row * 4 ^ n + column < place
inside n size row column place e l l' h = omega (arith, place-lt (4 ^ n) row column l l', ap (λ (s : ℕ). s * s) e)

pub overflow_mul-size : goal.overflow_mul-size
overflow_mul-size c = omega (arith, places_few c.args.n c.codes-size.result c.requires.few c.codes-size.ensures)

pub returns-clause-identity : goal.returns-clause-identity
returns-clause-identity c = λ row column l l'.
    c.loop-place.invariant.done (row * 4 ^ c.args.n + column) (inside c.args.n c.codes-size.result row column c.loop-place.place c.codes-size.ensures l l' c.loop-place-test.false)
    ∙ at_place c.args.n c.codes-size.result row column c.codes-size.ensures l'
