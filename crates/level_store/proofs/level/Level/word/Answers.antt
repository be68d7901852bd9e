use Rattle.std.proofs.Common.{◌≡◌, Some, slice_get, length, refl}
use Rattle.std.proofs.lemmas.Option.{slice_get_read}
use Rattle.level_store.specs.InOrder.{qubits_of, len_of}
use Rattle.level_store.specs.Stored.{words_of}
use Rattle.level_store.proofs.Tops.{stored_word}
use Rattle.level_store.proofs.level.Level.word.Goals as goal

pub returns-clause-stored : goal.returns-clause-stored
returns-clause-stored c =
    let l = c.args.self.now in
    let at : slice_get (words_of l) c.args.i ≡ Some c.index.result.now = slice_get_read (words_of l) (length (words_of l)) c.args.i c.index.result.now refl c.requires c.index.ensures in
    stored_word (qubits_of l) (len_of l) l (record { qubits = refl; len = refl }) c.args.i c.index.result.now at c.requires
