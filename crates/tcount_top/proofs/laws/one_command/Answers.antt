use Rattle.tcount_top.proofs.Words.{one_command}
use Rattle.tcount_top.proofs.laws.one_command.Goals as goal

pub returns : goal.returns
returns c = one_command
