use Rattle.std.proofs.Common.{◌≡◌, ◌^◌, ◌<◌, ◌++◌, ◌∷◌, [], length, slice_index_or, inl, inr, refl, ap, sym, ◌∙◌, subst, arith}
use Rattle.std.proofs.Math.ListN.{get_or-append}
use Rattle.std.proofs.lemmas.Bool.{cases_eq}
use Rattle.std.proofs.lemmas.List.{get_or_push}
use Rattle.pauli_basis.specs.Products.{commute, anti_sign}
use Rattle.label_laws.specs.Folds.{weights}
use Rattle.quick_label.specs.Folds.{AreFoldBefore}
use Rattle.quick_label.specs.Weights.{IsLetterOf}
use Rattle.quick_label.proofs.SuffixFacts.{letter_rows}
use Rattle.quick_label.proofs.before.Folds.new.Goals as goal

pub loop-p-preserved : goal.loop-p-preserved
loop-p-preserved c =
    let n = c.args.n in
    let p = c.loop-p.p in
    let letter : IsLetterOf n p c.commuting.result.now c.negative.result.now =
    record {
      commutes = letter_rows commute n _ p p _ c.requires.turns refl c.commuting.ensures.value;
      signs = letter_rows anti_sign n _ p p _ c.requires.turns refl c.negative.ensures.value;
    } in
    let new : AreFoldBefore n p c.take_before.new.before = record { long = c.take_before.ensures.long; are = c.take_before.ensures.are (weights (4 ^ n)) letter c.in_ok-plain.ensures.are } in
    record {
      long = omega (arith, c.in_ok-push.ensures.len, c.loop-p.invariant.long);
      before = λ k d l. subst (λ xs. AreFoldBefore n k (slice_index_or xs k d)) (sym c.in_ok-push.ensures.items) (elim (cases_eq k p) [
        | inl e ↦ subst (AreFoldBefore n k) (sym (get_or_push c.loop-p.before.items c.take_before.new.before d k (c.loop-p.invariant.long ∙ sym e))) (subst (λ j. AreFoldBefore n j c.take_before.new.before) (sym e) new)
        | inr ne ↦ subst (AreFoldBefore n k) (sym (get_or-append c.loop-p.before.items (c.take_before.new.before ∷ []) d k (omega (arith, c.loop-p.invariant.long)))) (c.loop-p.invariant.before k d (omega arith))
      ]);
    }
