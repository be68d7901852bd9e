use Rattle.std.proofs.Common.{false, true}
use Rattle.channel_rep.proofs.Undone.{turned_back}
use Rattle.channel_rep.proofs.laws.rotations_undo.Goals as goal

pub returns : goal.returns
returns c = λ n p l d. record { there = turned_back n false p l d; back = turned_back n true p l d }
