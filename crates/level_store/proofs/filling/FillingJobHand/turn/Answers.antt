use Rattle.std.proofs.Common.{ℕ, List, [], ◌∷◌, ◌++◌, ◌≡◌, ◌∙◌, length, map, cond, false, ap, sym, subst, append-nil}
use Rattle.channel_rep.specs.Tables.{SameTable}
use Rattle.coset_label.specs.Words.{word_channel}
use Rattle.level_laws.specs.Levels.{ComesAgain, candidate_at}
use Rattle.level_laws.specs.Levels as laws
use Rattle.level_laws.specs.Turns.{turn_of, turns_of}
use Rattle.level_laws.proofs.Partners.{are_partners}
use Rattle.level_store.specs.Filling.{height_of, last_letters}
use Rattle.level_store.specs.Partners.{Makes}
use Rattle.level_store.specs.Stored.{qubits_of_all}
use Rattle.level_store.proofs.Repeats.{repeat_tells}
use Rattle.level_store.proofs.Tops.{last_level, turn_long, turn_offers}
use Rattle.level_store.proofs.filling.FillingJobHand.turn.Goals as goal

pub returns-then-comes_again-clause-stands : goal.returns-then-comes_again-clause-stands
returns-then-comes_again-clause-stands c = λ done stood.
    let s = c.args.self.now.levels.now in
    let own = c.requires.own in
    let parts = c.parts_at-letter in
    let letter = parts.result.0.code in
    let word = parts.result.1.letters in
    let again = subst (λ n. ComesAgain n letter word) parts.ensures.word.qubits (c.comes_again.ensures.0 c.if-comes_again.true) in (
      stood.0,
      record {
        of = stood.1.of;
        offered = λ test tells. stood.1.offered test tells
            ∙ (sym (append-nil (laws.offers_of (qubits_of_all s) (last_letters s) test (turns_of (qubits_of_all s) (last_letters s) done)))
            ∙ sym (turn_offers s c.args.position own.0 (letter ∷ word) parts.ensures.is false (repeat_tells s letter word again) test tells done));
      },
    )

pub offer_if_new-requires-in-Two-clause-partner : goal.offer_if_new-requires-in-Two-clause-partner
offer_if_new-requires-in-Two-clause-partner c =
    let s = c.args.self.now.levels.now in
    let n = qubits_of_all s in
    let own = c.requires.own in
    let partner = subst (Makes n (last_letters s) c.args.position) c.in-Two.is c.turn_at.ensures in
    let are = are_partners n s.levels.some s.levels.few (height_of s) (last_letters s) (last_level s) c.args.position partner.partner own.0 partner.at in
    record {
      qubits = partner.qubits;
      long = ap length partner.letters ∙ turn_long s partner.partner are.below;
      channels = subst (λ (z : List ℕ × List ℕ). SameTable n (word_channel n z.0) (word_channel n z.1)) (λ i. (sym c.parts_at-letter.ensures.is i, sym partner.letters i)) are.channels;
    }

pub returns-in-One-clause-stands : goal.returns-in-One-clause-stands
returns-in-One-clause-stands c = λ done stood.
    let s = c.args.self.now.levels.now in
    let n = qubits_of_all s in
    let own = c.requires.own in
    let parts = c.parts_at-letter in
    let u = parts.result.0.code ∷ parts.result.1.letters in
    let e = c.offer_if_new.ensures in
    let turn : turn_of n (last_letters s) c.args.position ≡ c.args.position ∷ [] = subst (Makes n (last_letters s) c.args.position) c.in-One.is c.turn_at.ensures in
    let made : map (candidate_at n (last_letters s)) (turn_of n (last_letters s) c.args.position) ≡ u ∷ [] = ap (map (candidate_at n (last_letters s))) turn ∙ ap (λ z. z ∷ []) (sym parts.ensures.is) in (
      e.hand,
      record {
        of = e.seat;
        offered = λ test tells. e.offers
            ∙ ((λ i. stood.1.offered test tells i ++ cond c.offer_if_new.result (sym made i) [])
            ∙ sym (turn_offers s c.args.position own.0 u parts.ensures.is c.offer_if_new.result e.new test tells done));
      },
    )

pub returns-in-Two-clause-stands : goal.returns-in-Two-clause-stands
returns-in-Two-clause-stands c = λ done stood.
    let s = c.args.self.now.levels.now in
    let n = qubits_of_all s in
    let own = c.requires.own in
    let parts = c.parts_at-letter in
    let u = parts.result.0.code ∷ parts.result.1.letters in
    let w = c.in-Two.other.letters in
    let e = c.offer_if_new-in-Two.ensures in
    let partner = subst (Makes n (last_letters s) c.args.position) c.in-Two.is c.turn_at.ensures in
    let made : map (candidate_at n (last_letters s)) (turn_of n (last_letters s) c.args.position) ≡ u ∷ w ∷ [] =
    ap (map (candidate_at n (last_letters s))) partner.turn ∙ (λ i. sym parts.ensures.is i ∷ sym partner.letters i ∷ []) in (
      e.hand,
      record {
        of = e.seat;
        offered = λ test tells. e.offers
            ∙ ((λ i. stood.1.offered test tells i ++ cond c.offer_if_new-in-Two.result (sym made i) [])
            ∙ sym (turn_offers s c.args.position own.0 u parts.ensures.is c.offer_if_new-in-Two.result e.new test tells done));
      },
    )
