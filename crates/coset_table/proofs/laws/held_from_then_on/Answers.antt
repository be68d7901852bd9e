use Rattle.coset_table.proofs.Closes.{held_always}
use Rattle.coset_table.proofs.laws.held_from_then_on.Goals as goal

pub returns : goal.returns
returns c = held_always
