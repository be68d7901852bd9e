use Rattle.std.proofs.Common.{refl}
use Rattle.level_store.specs.InOrder.{qubits_of, len_of}
use Rattle.level_store.proofs.Starts.{level_is}
use Rattle.level_store.proofs.laws.stored_levels_are_levels.Goals as goal

pub returns : goal.returns
returns c = λ l. level_is (qubits_of l) (len_of l) l (record { qubits = refl; len = refl })
