use Rattle.coset_words.proofs.Marks.{one_mark}
use Rattle.coset_words.proofs.laws.cosets_have_one_mark.Goals as goal

pub returns : goal.returns
returns c = one_mark
