use Rattle.std.proofs.Common.{ℕ, ◌/◌, ◌%◌, ap, ◌∙◌}
use Rattle.pauli_basis.specs.Letters.{letter_of}
use Rattle.pauli_basis.specs.Products.{Signed}
use Rattle.pauli_basis.proofs.Letters.{two_bits}
use Rattle.pauli_basis.proofs.signed.SignedPauli.letter.Goals as goal

pub returns-clause-value : goal.returns-clause-value
returns-clause-value c =
    ap (λ (n : ℕ). c.self.inside.code / n % 4) (two_bits c.args.q) ∙ ap (λ (s : Signed). letter_of c.args.q s.code) c.self.view_is
