use Rattle.std.proofs.Common.{ℕ, nat_eq, ap}
use Rattle.clifford_rest.proofs.pauli.has_letter.Goals as goal

pub returns : goal.returns
returns c = ap (λ (l : ℕ). nat_eq l c.args.letter) c.letter.ensures.value
