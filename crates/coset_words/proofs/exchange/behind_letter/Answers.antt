use Rattle.std.proofs.Common.{◌≡◌, ◌+◌, ◌++◌, ◌∷◌, ℕ, true, List, drop, ap, sym, ◌∙◌, subst}
use Rattle.std.proofs.lemmas.List.Elements.{All-from_recursion, recursion_from_All, All-push}
use Rattle.pauli_basis.specs.Products.{commute}
use Rattle.channel_rep.specs.Words.{IsWord}
use Rattle.coset_label.specs.Cosets.{SameCosetWords}
use Rattle.coset_label.specs.Words.{RotationWord}
use Rattle.coset_words.proofs.Fronts.{AllCommute, brought_front, drop_at, moved, one_code}
use Rattle.coset_words.proofs.exchange.behind_letter.Goals as goal

pub returns-then-eq-clause-coset : goal.returns-then-eq-clause-coset
returns-then-eq-clause-coset c = λ front.
    let n = c.args.word.qubits in
    let p = c.args.p.code in
    let letters = c.args.word.letters in
    let before = c.loop-i.before.letters in
    let after = drop (c.loop-i.i + 1) letters in
    let one : c.letter-q.result.code ≡ p = one_code _ c.letter-q.result.code p (sym c.eq.ensures ∙ c.if-eq.true) in
    let whole : before ++ p ∷ after ≡ letters = ap (λ z. before ++ z) (ap (λ x. x ∷ after) (sym one) ∙ sym (drop_at letters c.loop-i.i c.letter-q.result.code c.letter-q.ensures.code)) ∙ c.loop-i.invariant.letters in
    subst (λ (e : List ℕ × List ℕ). SameCosetWords n (front ++ e.0) (front ++ p ∷ e.1)) (λ i. (whole i, sym c.followed_by.ensures.letters i))
    (brought_front n p before after front c.loop-i.invariant.commuting (subst (IsWord n) (sym whole) c.qubits.ensures.valid.word))

pub loop-i-preserved : goal.loop-i-preserved
loop-i-preserved c =
    let n = c.args.word.qubits in
    let p = c.args.p.code in
    let q = c.letter-q.result.code in
    let before = c.loop-i.before.letters in
    let commutes : commute n q p ≡ true = ap (λ k. commute k q p) (sym c.letter-q.ensures.qubits) ∙ (sym c.commutes.ensures.value ∙ c.if-not-commutes.false) in
    record {
      qubits = ap (λ (w : RotationWord). w.qubits) c.push_back-before.ensures ∙ c.loop-i.invariant.qubits;
      letters =
          ap (λ (w : RotationWord). w.letters ++ drop (c.loop-i.i + 1) c.args.word.letters) c.push_back-before.ensures
          ∙ (moved c.args.word.letters c.loop-i.i q c.letter-q.ensures.code before ∙ c.loop-i.invariant.letters);
      commuting =
          subst (AllCommute n p) (sym (ap (λ (w : RotationWord). w.letters) c.push_back-before.ensures))
          (recursion_from_All (λ x. commute n x p ≡ true) _ (All-push (λ x. commute n x p ≡ true) before q (All-from_recursion (λ x. commute n x p ≡ true) before c.loop-i.invariant.commuting) commutes));
    }
