use Rattle.coset_table.proofs.UnpackedWords.{packed_letters}
use Rattle.coset_table.proofs.words.word_of_bucket.Goals as goal

pub from_letters-requires : goal.from_letters-requires
from_letters-requires c = packed_letters c.args.shape c.requires.shape c.args.number c.requires.word
