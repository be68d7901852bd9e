use Rattle.count_checker.proofs.Deciding.{same_or_not}
use Rattle.count_checker.proofs.laws.sameness_is_decided.Goals as goal

pub returns : goal.returns
returns c = same_or_not
