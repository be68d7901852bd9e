use Rattle.std.proofs.Common.{◌≡◌, ◌≢◌, ℕ, ◌^◌, ◌<◌, ◌++◌, List, Option, IfSome, Some, length, ap, sym, ◌∙◌, subst}
use Rattle.std.proofs.lemmas.List.{append_assoc}
use Rattle.channel_rep.specs.Cells.{scaled}
use Rattle.pauli_basis.specs.Pauli.{PauliString}
use Rattle.coset_label.specs.Words.{RotationWord}
use Rattle.level_laws.specs.Levels.{StandsIn, removed}
use Rattle.level_store.specs.Stored.{Finds, letters_in, words_of}
use Rattle.level_store.proofs.Merely.{stored_at}
use Rattle.meet_middle.specs.Fronts.{front_of}
use Rattle.meet_middle.specs.Halves.{middle_letters}
use Rattle.meet_middle.proofs.Halving.{number_below, front_spelled}
use Rattle.meet_middle.proofs.Numbers.{word_qubits, word_letters}
use Rattle.meet_middle.proofs.Totals.{meets_decided}
use Rattle.meet_middle.proofs.search.spell.Goals as goal

pub unreachable-requires : goal.unreachable-requires
unreachable-requires g c =
    let n = g.row.N in
    let half = c.args.half in
    let words = letters_in c.args.level.now in
    let target = scaled c.args.target.now in
    let stored = stored_at n half c.args.level.now c.requires.asked.number in
    let rest = removed n target (front_of n words c.args.odd c.args.position) in
    let never : StandsIn n half rest → ⊥ = subst (λ (o : Option RotationWord). Finds n half rest o) c.in_default.is (c.look.ensures.finds (scaled c.args.target.now) c.requires.keeps) in
    never ((meets_decided n stored.some stored.few half words stored.level target c.args.odd c.args.position).0 c.requires.hit)

pub word-requires : goal.word-requires
word-requires g c =
    subst (λ (k : ℕ). k < length (words_of c.args.level.now)) (sym c.front-number.ensures.number) (number_below g.row.N c.args.level.now c.args.odd c.args.position c.requires.below)

pub invariant_of-result : goal.invariant_of-result
invariant_of-result g c =
    let n = g.row.N in
    let half = c.args.half in
    let rest = removed n (scaled c.args.target.now) (front_of n (letters_in c.args.level.now) c.args.odd c.args.position) in
    let found = subst (λ (o : Option RotationWord). Finds n half rest o) c.in-Some.is (c.look.ensures.finds (scaled c.args.target.now) c.requires.keeps) in
    let below = subst (λ (k : ℕ). k < length (words_of c.args.level.now)) (sym c.front-number.ensures.number) (number_below n c.args.level.now c.args.odd c.args.position c.requires.below) in
    let first = word_qubits n (words_of c.args.level.now) c.front-number.result.0 c.word.result below c.word.ensures.word (stored_at n c.args.half c.args.level.now c.requires.asked.number).words in
    let middle = λ (p : PauliString) (is : c.front-number.result.1 ≡ Some p). subst (λ (o : Option PauliString). IfSome o (λ q. (q.qubits ≡ n) × (q.code < 4 ^ n) × (q.code ≢ 0))) is c.front-number.ensures.middle in
    record {
      qubits = first ∙ sym found.0;
      middle_is = λ p is. (middle p is).0 ∙ sym first;
      other = λ p is. (middle p is).2;
    }

pub returns-clause-qubits : goal.returns-clause-qubits
returns-clause-qubits g c =
    let n = g.row.N in
    let below = subst (λ (k : ℕ). k < length (words_of c.args.level.now)) (sym c.front-number.ensures.number) (number_below n c.args.level.now c.args.odd c.args.position c.requires.below) in
    word_qubits n (words_of c.args.level.now) c.front-number.result.0 c.word.result below c.word.ensures.word (stored_at n c.args.half c.args.level.now c.requires.asked.number).words

pub returns-clause-meets : goal.returns-clause-meets
returns-clause-meets g c =
    let n = g.row.N in
    let rest = removed n (scaled c.args.target.now) (front_of n (letters_in c.args.level.now) c.args.odd c.args.position) in
    (subst (λ (o : Option RotationWord). Finds n c.args.half rest o) c.in-Some.is (c.look.ensures.finds (scaled c.args.target.now) c.requires.keeps)).1

pub returns-clause-spelled : goal.returns-clause-spelled
returns-clause-spelled g c =
    let n = g.row.N in
    let level = c.args.level.now in
    let number = c.front-number.result.0 in
    let first = c.word.result in
    let middle = middle_letters c.front-number.result.1 in
    let last = c.in-Some.back.letters in
    let below = subst (λ (k : ℕ). k < length (words_of level)) (sym c.front-number.ensures.number) (number_below n level c.args.odd c.args.position c.requires.below) in
    let front = front_spelled n (letters_in level) c.args.odd c.args.position number first.letters middle (word_letters level number first below c.word.ensures.word) c.front-number.ensures.number c.front-number.ensures.letters in
    sym (append_assoc first.letters middle last) ∙ ap (λ (w : List ℕ). w ++ last) front
