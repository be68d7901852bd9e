use Rattle.std.proofs.Common.{◌≡◌, ◌-◌, ◌^◌, ◌<◌, inl, inr, sym, ◌∙◌, subst, slice_index, slice_index_or, refl, arith, rules, SFits}
use Rattle.std.specs.Int.{w16}
use Rattle.std.proofs.lemmas.Bool.{cases_lt}
use Rattle.std.proofs.lemmas.Int.{to_z-of_z}
use Rattle.std.specs.Prelude.{pos, ◌+ℤ◌}
use Rattle.label_laws.specs.Congruence.{IsCongruent}
use Rattle.quick_label.specs.Columns.{run_sum}
use Rattle.quick_label.proofs.RunSums.{no_run, run_longer, narrow_cast}
use Rattle.quick_label.proofs.sums.with_run.Goals as goal

pub loop-k-init : goal.loop-k-init
loop-k-init c = record {
  from = omega arith;
  stays = λ l. refl;
  fold = no_run c.args.rows.now c.args.values.now c.args.start c.args.start c.args.fold.now c.args.sums.fold (omega arith);
  high = no_run c.args.rows.now c.args.values.now c.args.start c.args.start c.args.high.now c.args.sums.high (omega arith);
  low = no_run c.args.rows.now c.args.values.now c.args.start c.args.start c.args.low.now c.args.sums.low (omega arith);
}

pub loop-k-preserved : goal.loop-k-preserved
loop-k-preserved c =
    let k = c.loop-k.k in
    let rows = c.args.rows.now in
    let values = c.args.values.now in
    let row = slice_index rows k in
    let fits : SFits w16 (slice_index_or values k (pos 0)) = search rules in
    let read : c.from.result ≡ slice_index_or values k (pos 0) = c.from.ensures ∙ to_z-of_z w16 _ fits in
    let value : IsCongruent (2 ^ 64) (slice_index_or values k (pos 0)) c.cast_unsigned-value.result =
    subst (λ z. IsCongruent (2 ^ 64) z c.cast_unsigned-value.result) read (narrow_cast _ _ (subst (SFits w16) (sym read) fits) c.cast_unsigned-value.ensures) in
    record {
      from = omega arith;
      stays = λ l. absurd (omega (arith, c.loop-k.invariant.from));
      fold = run_longer rows values c.args.start k c.args.fold.now _ c.loop-k.fold_sum row _ c.loop-k.invariant.from refl (c.requires.fold k (omega arith)) value c.loop-k.invariant.fold;
      high = run_longer rows values c.args.start k c.args.high.now _ c.loop-k.high_sum row _ c.loop-k.invariant.from refl (c.requires.high k (omega arith)) value c.loop-k.invariant.high;
      low = run_longer rows values c.args.start k c.args.low.now _ c.loop-k.low_sum row _ c.loop-k.invariant.from refl (c.requires.low k (omega arith)) value c.loop-k.invariant.low;
    }

pub returns-clause-fold : goal.returns-clause-fold
returns-clause-fold c = λ w s are h.
    let same : c.loop-k.k - c.args.start ≡ c.args.end - c.args.start = elim (cases_lt c.args.end c.args.start) [
      | inl less ↦ (let at = c.loop-k.invariant.stays less in omega arith)
      | inr more ↦ omega arith
    ] in
    subst (λ n. IsCongruent (2 ^ 64) (s +ℤ run_sum w c.args.rows.now c.args.values.now c.args.start n) c.loop-k.fold_sum) same (c.loop-k.invariant.fold w s are h)

pub returns-clause-high : goal.returns-clause-high
returns-clause-high c = λ w s are h.
    let same : c.loop-k.k - c.args.start ≡ c.args.end - c.args.start = elim (cases_lt c.args.end c.args.start) [
      | inl less ↦ (let at = c.loop-k.invariant.stays less in omega arith)
      | inr more ↦ omega arith
    ] in
    subst (λ n. IsCongruent (2 ^ 64) (s +ℤ run_sum w c.args.rows.now c.args.values.now c.args.start n) c.loop-k.high_sum) same (c.loop-k.invariant.high w s are h)

pub returns-clause-low : goal.returns-clause-low
returns-clause-low c = λ w s are h.
    let same : c.loop-k.k - c.args.start ≡ c.args.end - c.args.start = elim (cases_lt c.args.end c.args.start) [
      | inl less ↦ (let at = c.loop-k.invariant.stays less in omega arith)
      | inr more ↦ omega arith
    ] in
    subst (λ n. IsCongruent (2 ^ 64) (s +ℤ run_sum w c.args.rows.now c.args.values.now c.args.start n) c.loop-k.low_sum) same (c.loop-k.invariant.low w s are h)
