use Rattle.coset_label.proofs.PackedWords.{letters_packed, packed_low, short_word}
use Rattle.coset_label.proofs.word.Word.letters.Goals as goal

pub returns-clause-value : goal.returns-clause-value
returns-clause-value c = letters_packed _ _ _ c.args.self.now c.self.view_is c.self.invariant

pub returns-clause-low : goal.returns-clause-low
returns-clause-low c = packed_low _ _ _ c.self.invariant

pub returns-clause-valid : goal.returns-clause-valid
returns-clause-valid c = short_word _ _ _ c.args.self.now c.self.view_is c.self.invariant
