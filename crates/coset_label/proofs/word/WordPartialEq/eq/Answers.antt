use Rattle.std.proofs.Common.{rules}
use Rattle.coset_label.proofs.PackedWords.{same_answer}
use Rattle.coset_label.proofs.word.WordPartialEq.eq.Goals as goal

pub returns : goal.returns
returns c = search (rules, same_answer)
