use Rattle.coset_label.proofs.PackedWords.{letters_counted, short_word}
use Rattle.coset_label.proofs.word.Word.len.Goals as goal

pub returns-clause-value : goal.returns-clause-value
returns-clause-value c = letters_counted _ _ _ c.args.self.now c.self.view_is

pub returns-clause-valid : goal.returns-clause-valid
returns-clause-valid c = short_word _ _ _ c.args.self.now c.self.view_is c.self.invariant
