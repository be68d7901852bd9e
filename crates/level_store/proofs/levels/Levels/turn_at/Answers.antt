use Rattle.std.proofs.Common.{◌*◌, ◌^◌, ◌<◌, length, sym, subst}
use Rattle.level_store.proofs.Tops.{count_of_letters, few_positions}
use Rattle.level_store.specs.Stored.{qubits_of_all}
use Rattle.level_store.proofs.levels.Levels.turn_at.Goals as goal

pub turn_of-requires-clause-few : goal.turn_of-requires-clause-few
turn_of-requires-clause-few c =
    let s = c.args.self.now in
    let count = count_of_letters c.letters.result (4 ^ qubits_of_all s) c.letters.ensures in
    subst (λ p. p < 2 ^ 24) (sym (λ i. length (c.last.ensures.letters i) * count i)) (few_positions s c.requires.room)
