use Rattle.level_laws.proofs.LeastWords.{behind_least}
use Rattle.meet_laws.proofs.Fronts.{front_least}
use Rattle.meet_laws.proofs.laws.parts_are_least.Goals as goal

pub returns : goal.returns
returns c = λ n some few m a b h. (front_least n some few m a b h, behind_least n m a b h)
