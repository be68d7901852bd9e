use Rattle.std.proofs.Common.{rules, ◌≡◌, ◌≢◌, ℕ, List, Some, true, ◌+◌, ◌-◌, ◌*◌, ◌^◌, ◌<◌, nat_lt, ◌∷◌, drop, sym, ap, ◌∙◌, subst}
use Rattle.std.proofs.lemmas.Bool.{lt-ltb}
use Rattle.pauli_basis.specs.Products.{commute}
use Rattle.coset_label.specs.Words.{RotationWord}
use Rattle.level_laws.specs.Turns.{place_of, may_exchange}
use Rattle.level_store.specs.InOrder.{qubits_of}
use Rattle.level_store.specs.Stored.{letters_in}
use Rattle.level_store.proofs.Made.{first_and_rest, exchange_may, candidate_of, partner_found, made_both}
use Rattle.level_store.proofs.Repeats.{other_code}
use Rattle.level_store.proofs.Tops.{count_of_letters}
use Rattle.level_store.proofs.partner.turn_of.Goals as goal

pub returns-then-position-partner : goal.returns-then-position-partner
returns-then-position-partner c =
    let n = qubits_of c.args.level.now in
    let words = letters_in c.args.level.now in
    let position = c.args.position in
    let p = c.args.letter.code in
    let q = c.letter-first.result.code in
    let w = c.args.word.letters in
    let place = c.in-Some.place in
    let partner : ℕ = place * c.args.letters + (c.from.result - 1) in
    let is : w ≡ q ∷ drop 1 w = first_and_rest w q c.letter-first.ensures.code in
    let same : c.letter-first.result.qubits ≡ n = c.letter-first.ensures.qubits ∙ c.requires.qubits.1 in
    let apart : q ≢ p = other_code c.letter-first.result.qubits c.args.letter.qubits q p (same ∙ sym c.requires.qubits.0) (sym c.eq.ensures ∙ c.if-eq.false) in
    let commutes : commute n p q ≡ true = ap (λ k. commute k p q) (sym c.requires.qubits.0) ∙ (sym c.commutes.ensures.value ∙ c.if-not-commutes.false) in
    let may : may_exchange n p q ≡ true = exchange_may n p q apart commutes in
    let at : place_of words (p ∷ drop 1 w) ≡ Some place = ap (place_of words) (sym c.with_first-behind.ensures.letters) ∙ (sym c.place.ensures ∙ c.in-Some.is) in
    let size = count_of_letters c.args.letters (4 ^ n) c.requires.letters in
    let code : c.from.result ≡ q = c.from.ensures ∙ c.code.ensures.value in
    let partner_is : partner ≡ place * (4 ^ n - 1) + (q - 1) = (λ i. place * size i + (code i - 1)) in
    let below : q < 4 ^ n = subst (λ (z : ℕ × ℕ). z.0 < 4 ^ z.1) (λ i. (c.code.ensures.value i, same i)) c.code.ensures.below in
    let made = c.push_front.ensures in
    record {
      partner = partner;
      at = partner_found n words position p w c.requires.letter c.requires.word q (drop 1 w) is place may at partner partner_is;
      turn = made_both n words position p w c.requires.letter c.requires.word q (drop 1 w) is place may at partner partner_is (lt-ltb position partner c.if-position-partner.true);
      qubits = ap (λ (v : RotationWord). v.qubits) made ∙ (c.with_first-behind.ensures.qubits ∙ c.requires.qubits.1);
      letters = ap (λ (v : RotationWord). v.letters) made ∙ (ap (λ z. q ∷ z) c.with_first-behind.ensures.letters ∙ candidate_of n words p q (drop 1 w) place partner below c.letter-first.ensures.other at partner_is);
    }
