use Rattle.std.proofs.Common.{arith, ◌∙◌, ◌%◌}
use Rattle.pauli_basis.specs.Products.{turns}
use Rattle.channel_rep.proofs.Squares.{codes_few}
use Rattle.quick_label.proofs.LetterRows.{sign_is}
use Rattle.quick_label.proofs.turns.turn_of.Goals as goal

pub overflow_cast-p : goal.overflow_cast-p
overflow_cast-p c = omega (arith, codes_few c.args.n c.requires.few)

pub overflow_cast-row : goal.overflow_cast-row
overflow_cast-row c = omega (arith, codes_few c.args.n c.requires.few)

pub returns-clause-sign : goal.returns-clause-sign
returns-clause-sign c =
    sign_is c.args.n c.args.p c.args.row _
    (c.product-turns.ensures.turns ∙ (λ i. turns (c.in-Some-Some.ensures.value i).qubits (c.in-Some-Some.ensures.value i).code (c.in-Some-Some.ensures'.value i).code % 4))
