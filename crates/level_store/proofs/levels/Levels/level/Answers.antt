use Rattle.std.proofs.Common.{◌≡◌, Some, slice_get, length, refl, subst}
use Rattle.std.proofs.lemmas.Option.{slice_get_read, get_or_from_slice_get}
use Rattle.level_store.specs.InOrder.{IsLevelOf}
use Rattle.level_store.specs.Stored.{qubits_of_all, levels_of}
use Rattle.level_store.proofs.Starts.{level_is}
use Rattle.level_store.proofs.levels.Levels.level.Goals as goal

pub returns-clause-words : goal.returns-clause-words
returns-clause-words c =
    let s = c.args.self.now in
    let l = c.index.result.now in
    let at : slice_get (levels_of s) c.args.k ≡ Some l = slice_get_read (levels_of s) (length (levels_of s)) c.args.k l refl c.requires.height c.index.ensures in
    level_is (qubits_of_all s) c.args.k l (subst (IsLevelOf (qubits_of_all s) c.args.k) (get_or_from_slice_get (levels_of s) c.args.k l l at) (s.levels.each c.args.k l c.requires.height))
