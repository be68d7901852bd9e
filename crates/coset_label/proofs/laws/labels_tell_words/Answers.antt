use Rattle.coset_label.proofs.WordChannels.{label_tells_word}
use Rattle.coset_label.proofs.laws.labels_tell_words.Goals as goal

pub returns : goal.returns
returns c = label_tells_word
