use Rattle.std.proofs.Common.{◌≢◌, ◌<◌, ◌⊎◌, ◌↔◌, ◌||◌, Bool, true, false, inl, inr, IsTrue, refl, sym, length, arith, get_or-set_other, get_or-set_same, below_more}
use Rattle.std.proofs.lemmas.Bool.{true≢false}
use Rattle.pauli_basis.specs.Products.{product_code}
use Rattle.quick_label.proofs.spans.widen.Goals as goal

either : (x y : Bool) → IsTrue (x || y) ↔ (IsTrue x ⊎ IsTrue y)
either true y = (λ _. inl refl, λ _. refl)
either false y = (λ e. inr e, λ h. elim h [ inl e ↦ absurd (true≢false (sym e)) | inr e ↦ e ])

pub loop-v-preserved : goal.loop-v-preserved
loop-v-preserved c =
    below_more _ _
    (λ k h. let ne : k ≢ c.loop-v.v = omega arith in rw get_or-set_other (c.loop-v.invariant k h))
    (let lt : c.loop-v.v < length c.loop-v.wider = omega arith in rw get_or-set_same (either _ _))

pub returns : goal.returns
returns c n word are = record {
  long = omega (arith, are.long);
  tells = λ v l.
      let is = c.loop-v.invariant v (omega (arith, are.long)) in
      let here = are.tells v l in
      let there = are.tells (product_code c.args.p v) (omega (arith, are.long, c.requires.closed v (omega (arith, are.long)))) in
      (λ e. elim (is.0 e) [ inl h ↦ inl (here.0 h) | inr h ↦ inr (there.0 h) ], λ e. elim e [ inl h ↦ is.1 (inl (here.1 h)) | inr h ↦ is.1 (inr (there.1 h)) ]);
}
