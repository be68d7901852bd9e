use Rattle.std.proofs.Common.{ℕ, Bool, List, ◌∷◌, length, IfSome, ◌∙◌, ap, sym, subst}
use Rattle.coset_label.specs.Words.{RotationWord}
use Rattle.coset_words.specs.Marks.{IsMarkOf}
use Rattle.level_store.specs.Filling.{TellsNew}
use Rattle.level_store.specs.Partners.{IsBeside}
use Rattle.level_store.specs.Stored.{qubits_of_all, levels_of}
use Rattle.level_store.proofs.Made.{mark_beside}
use Rattle.level_store.proofs.filling.Filling.offer_if_new.Goals as goal

pub offer-requires-in-Some-clause-qubits : goal.offer-requires-in-Some-clause-qubits
offer-requires-in-Some-clause-qubits c =
    let s = c.args.self.now.levels.now in
    let other = subst (λ o. IfSome o (IsBeside (qubits_of_all s) (length (levels_of s)) (c.args.letter.code ∷ c.args.word.letters))) c.in-Some.is c.requires.partner in
    other.qubits ∙ sym c.requires.filling.qubits

pub offer-requires-in-Some-clause-len : goal.offer-requires-in-Some-clause-len
offer-requires-in-Some-clause-len c =
    let s = c.args.self.now.levels.now in
    let other = subst (λ o. IfSome o (IsBeside (qubits_of_all s) (length (levels_of s)) (c.args.letter.code ∷ c.args.word.letters))) c.in-Some.is c.requires.partner in
    other.long ∙ sym c.requires.filling.len

pub offer-requires-in-Some-clause-mark : goal.offer-requires-in-Some-clause-mark
offer-requires-in-Some-clause-mark c =
    let s = c.args.self.now.levels.now in
    let n = qubits_of_all s in
    let other = subst (λ o. IfSome o (IsBeside n (length (levels_of s)) (c.args.letter.code ∷ c.args.word.letters))) c.in-Some.is c.requires.partner in
    let u = c.args.letter.code ∷ c.args.word.letters in
    let mark = c.mark_with-mark.result in
    let marked : IsMarkOf c.args.word.qubits u mark = subst (λ (w : RotationWord). IsMarkOf w.qubits (c.args.letter.code ∷ w.letters) mark) c.turn_to.ensures c.mark_with-mark.ensures.mark in
    let own : IsMarkOf n u mark = subst (λ q. IsMarkOf q u mark) c.requires.word.qubits marked in
    subst (λ q. IsMarkOf q c.in-Some.other.letters mark) (sym other.qubits) (mark_beside n u c.in-Some.other.letters mark other.channels own)

pub returns-in-Some-clause-new : goal.returns-in-Some-clause-new
returns-in-Some-clause-new c =
    subst (λ (z : List ℕ × Bool). TellsNew c.args.self.now.levels.now z.0 z.1) (λ i. ((c.push_front-candidate.ensures i).letters, c.if-not-is_new.false i)) c.is_new.ensures.new

pub returns-in_default-clause-new : goal.returns-in_default-clause-new
returns-in_default-clause-new c =
    subst (λ (z : List ℕ × Bool). TellsNew c.args.self.now.levels.now z.0 z.1) (λ i. ((c.push_front-candidate.ensures i).letters, c.if-not-is_new.false i)) c.is_new.ensures.new
