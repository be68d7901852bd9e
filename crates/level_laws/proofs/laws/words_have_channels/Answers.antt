use Rattle.level_laws.proofs.Circuits.{word_matrix_channel}
use Rattle.level_laws.proofs.laws.words_have_channels.Goals as goal

pub returns : goal.returns
returns c = word_matrix_channel
