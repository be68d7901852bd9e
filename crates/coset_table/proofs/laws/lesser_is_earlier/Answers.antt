use Rattle.coset_table.proofs.Closes.{lesser_earlier}
use Rattle.coset_table.proofs.laws.lesser_is_earlier.Goals as goal

pub returns : goal.returns
returns c = lesser_earlier
