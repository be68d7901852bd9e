use Rattle.pauli_basis.proofs.Masks.{mask_turns}
use Rattle.pauli_basis.proofs.pauli.quarter_turns.Goals as goal

pub returns : goal.returns
returns c = mask_turns c.args.p c.args.q c.requires.left c.requires.right
