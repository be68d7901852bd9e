use Rattle.std.proofs.Common.{◌++◌, ◌∷◌, ℕ, List, take, sym, ◌∙◌, subst, arith}
use Rattle.coset_label.specs.Cosets.{SameCosetWords}
use Rattle.coset_label.proofs.OneCoset.{coset_refl, coset_sym, coset_trans}
use Rattle.coset_words.proofs.Fronts.{take_at}
use Rattle.coset_words.proofs.exchange.exchanges.Goals as goal

pub loop-i-init : goal.loop-i-init
loop-i-init c = record {
  qubits = sym c.requires;
  len = omega (arith, c.len.ensures.value, c.len-2.ensures.value, c.if-len.false);
  coset = coset_refl c.args.v.qubits c.args.w.letters;
}

pub loop-i-preserved : goal.loop-i-preserved
loop-i-preserved c =
    let n = c.args.v.qubits in
    let v = c.args.v.letters in
    let i = c.loop-i.i in
    let front = take i v in
    let rest = c.loop-i.rest.letters in
    let p = c.letter.result.code in
    let behind = c.in-Some.behind.letters in
    let brought : SameCosetWords n (front ++ rest) (front ++ p ∷ behind) = subst (λ k. SameCosetWords k (front ++ rest) (front ++ p ∷ behind)) c.loop-i.invariant.qubits (c.in-Some.ensures.coset front) in
    record {
      qubits = c.in-Some.ensures.qubits ∙ c.loop-i.invariant.qubits;
      len = omega (arith, c.in-Some.ensures.len, c.loop-i.invariant.len);
      coset =
          subst (λ (z : List ℕ). SameCosetWords n z c.args.w.letters) (sym (take_at v i p c.letter.ensures.code behind))
          (coset_trans n (front ++ p ∷ behind) (front ++ rest) c.args.w.letters (coset_sym n (front ++ rest) (front ++ p ∷ behind) brought) c.loop-i.invariant.coset);
    }
