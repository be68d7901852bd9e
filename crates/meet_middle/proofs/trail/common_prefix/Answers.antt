use Rattle.std.proofs.Common.{◌≡◌, ◌++◌, ◌∷◌, [], ℕ, List, Some, length, length-append, slice_get, ap, sym, ◌∙◌, subst, arith}
use Rattle.coset_label.specs.Words.{RotationWord}
use Rattle.meet_middle.proofs.Numbers.{same_codes}
use Rattle.meet_middle.proofs.Trailing.{take_letter}
use Rattle.meet_middle.proofs.trail.common_prefix.Goals as goal

pub loop-i-preserved : goal.loop-i-preserved
loop-i-preserved c =
    let i = c.loop-i.i in
    let p = c.letter-letter.result.code in
    let inv = c.loop-i.invariant in
    let is = c.push_back-alike.ensures in
    let letters : c.push_back-alike.result.letters ≡ c.loop-i.alike.letters ++ p ∷ [] = ap (λ (w : RotationWord). w.letters) is in
    let same : c.letter.result.code ≡ p = sym (same_codes _ p c.letter.result.code (sym c.ne.ensures ∙ c.if-ne.false)) in
    let there : slice_get c.args.w.letters i ≡ Some p = subst (λ k. slice_get c.args.w.letters i ≡ Some k) same c.letter.ensures.code in
    record {
      qubits = ap (λ (w : RotationWord). w.qubits) is ∙ inv.qubits;
      long = omega (arith, ap length letters, length-append c.loop-i.alike.letters (p ∷ []), inv.long);
      first = letters ∙ (ap (λ (w : List ℕ). w ++ p ∷ []) inv.first ∙ sym (take_letter c.args.v.letters i p c.letter-letter.ensures.code));
      second = letters ∙ (ap (λ (w : List ℕ). w ++ p ∷ []) inv.second ∙ sym (take_letter c.args.w.letters i p there));
    }
