use Rattle.std.proofs.Common.{ℕ, ◌/◌, ◌%◌, ap}
use Rattle.pauli_basis.proofs.Letters.{two_bits}
use Rattle.channel_rep.proofs.gate.letter_of.Goals as goal

pub returns-clause-value : goal.returns-clause-value
returns-clause-value c = ap (λ (n : ℕ). c.args.code / n % 4) (two_bits c.args.q)
