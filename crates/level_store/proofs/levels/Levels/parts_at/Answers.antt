use Rattle.std.proofs.Common.{rules, ℕ, subst}
use Rattle.level_store.specs.Stored.{IsStoredWord}
use Rattle.level_store.proofs.Tops.{count_of_letters, made_room, made_letters}
use Rattle.level_store.proofs.levels.Levels.parts_at.Goals as goal

pub returns-clause-word : goal.returns-clause-word
returns-clause-word c =
    subst (λ (z : ℕ × ℕ). IsStoredWord z.0 z.1 c.word.result) (λ i. (c.last.ensures.number.qubits i, c.last.ensures.number.len i)) c.word.ensures.stored

pub returns-clause-room : goal.returns-clause-room
returns-clause-room c =
    let s = c.args.self.now in
    made_room s c.last.result.now c.last.ensures.number c.last.ensures.letters c.args.position _ (count_of_letters _ _ c.letters-letters.ensures) c.requires.position c.word.result c.word.ensures.word c.requires.room

pub returns-clause-is : goal.returns-clause-is
returns-clause-is c =
    let s = c.args.self.now in
    made_letters s c.last.result.now c.last.ensures.number c.last.ensures.letters c.args.position _ (count_of_letters _ _ c.letters-letters.ensures) c.requires.position c.word.result c.word.ensures.word c.in-Some.letter.code (search rules)
