use Rattle.coset_label.proofs.PackedWords.{short_word}
use Rattle.coset_label.proofs.word.Word.qubits.Goals as goal

pub returns-clause-valid : goal.returns-clause-valid
returns-clause-valid c = short_word _ _ _ c.args.self.now c.self.view_is c.self.invariant
