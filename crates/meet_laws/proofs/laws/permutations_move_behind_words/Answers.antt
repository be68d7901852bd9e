use Rattle.meet_laws.proofs.Between.{moved_word}
use Rattle.meet_laws.proofs.laws.permutations_move_behind_words.Goals as goal

pub returns : goal.returns
returns c = moved_word
