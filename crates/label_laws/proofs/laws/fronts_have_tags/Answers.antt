use Rattle.label_laws.proofs.Fronts.{front_tag}
use Rattle.label_laws.proofs.laws.fronts_have_tags.Goals as goal

pub returns : goal.returns
returns c = front_tag
