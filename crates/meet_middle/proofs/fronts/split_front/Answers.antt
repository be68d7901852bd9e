use Rattle.std.proofs.Common.{◌≡◌, ℕ, ◌<◌, ◌++◌, Option, length, sym, ◌∙◌, subst}
use Rattle.std.proofs.lemmas.List.{append-nil}
use Rattle.pauli_basis.specs.Pauli.{PauliString}
use Rattle.level_store.specs.Stored.{letters_in, words_of}
use Rattle.meet_middle.specs.Fronts.{front_of}
use Rattle.meet_middle.specs.Halves.{middle_letters}
use Rattle.meet_middle.proofs.Halving.{number_below, front_spelled}
use Rattle.meet_middle.proofs.Numbers.{word_letters}
use Rattle.meet_middle.proofs.fronts.split_front.Goals as goal

pub returns-in-Some-clause-front : goal.returns-in-Some-clause-front
returns-in-Some-clause-front c =
    let level = c.args.level.now in
    let number = c.front-number.result.0 in
    let word = c.word-word.result in
    let below = subst (λ (k : ℕ). k < length (words_of level)) (sym c.front-number.ensures.number) (number_below c.args.n level c.args.odd c.args.position c.requires.below) in
    subst (λ (o : Option PauliString). word.letters ++ middle_letters o ≡ front_of c.args.n (letters_in level) c.args.odd c.args.position) c.in-Some.is
    (front_spelled c.args.n (letters_in level) c.args.odd c.args.position number word.letters (middle_letters c.front-number.result.1) (word_letters level number word below c.word-word.ensures.word) c.front-number.ensures.number c.front-number.ensures.letters)

pub returns-in-None-clause-front : goal.returns-in-None-clause-front
returns-in-None-clause-front c =
    let level = c.args.level.now in
    let number = c.front-number.result.0 in
    let word = c.word-word.result in
    let below = subst (λ (k : ℕ). k < length (words_of level)) (sym c.front-number.ensures.number) (number_below c.args.n level c.args.odd c.args.position c.requires.below) in
    c.split_last.ensures.letters
    ∙ (sym (append-nil word.letters)
    ∙ subst (λ (o : Option PauliString). word.letters ++ middle_letters o ≡ front_of c.args.n (letters_in level) c.args.odd c.args.position) c.in-None.is
    (front_spelled c.args.n (letters_in level) c.args.odd c.args.position number word.letters (middle_letters c.front-number.result.1) (word_letters level number word below c.word-word.ensures.word) c.front-number.ensures.number c.front-number.ensures.letters))
