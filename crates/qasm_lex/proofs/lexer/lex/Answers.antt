use Rattle.std.proofs.Common.{◌≡◌, ◌+◌, ◌<◌, ◌++◌, [], List, ℕ, Some, None, length, drop, arith, ap, ◌∙◌, sym, refl, subst, length-drop}
use Rattle.std.proofs.lemmas.List.{append-nil}
use Rattle.qasm_lex.specs.declared.token.Token.{Token}
use Rattle.qasm_lex.specs.Tokens.{Cuts, IsLongest, gap}
use Rattle.qasm_lex.proofs.Rest.{rest_is}
use Rattle.qasm_lex.proofs.Gaps.{gap_within}
use Rattle.qasm_lex.proofs.Cutting.{CutsAt, behind_gap, one_more, found_at, some_longest, spans_of}
use Rattle.qasm_lex.proofs.lexer.lex.Goals as goal
use Rattle.qasm_lex.proofs.lexer.lex.Goals.{After-gap}

pub loop-at-init : goal.loop-at-init
loop-at-init c = record {
  within = c.gap-at.ensures.within;
  more = λ ts q cut.
      let text = c.args.text.now in
      let cuts = behind_gap text 0 ts q (subst (λ (x : ℕ). CutsAt text x ts q) (c.gap-at.ensures.value ∙ omega arith) cut) in
      subst (λ (xs : List Token). Cuts text 0 (xs ++ ts) q) (sym c.new-tokens.ensures.items) cuts;
}

longest : (c : After-gap) → IsLongest (drop c.loop-at.at c.args.text.now) c.in-Some.kind c.in-Some.len
longest c = found_at c.args.text.now c.loop-at.at c.front.result (Some (c.in-Some.kind, c.in-Some.len)) c.front.ensures.value c.in-Some.is

pub loop-at-preserved : goal.loop-at-preserved
loop-at-preserved c =
    let text = c.args.text.now in
    let at = c.loop-at.at in
    let end = at + c.in-Some.len in
    let t : Token = record { kind = c.in-Some.kind; start = at; end = end } in
    let l = longest c in
    let g : c.gap.result ≡ gap (drop end text) = c.gap.ensures.value ∙ ap gap (rest_is text end) in
    record {
      within = omega (arith, l.token.0, length-drop at text, g, gap_within (drop end text), length-drop end text);
      more = λ ts q cut. subst (λ (xs : List Token). Cuts text 0 (xs ++ ts) q) (sym c.in_ok-push.ensures.items)
          (one_more text c.loop-at.tokens.items t at c.in-Some.len (end + c.gap.result) c.loop-at.invariant.more refl refl l (ap (λ (x : ℕ). end + x) g) ts q cut);
    }

pub loop-at-smaller : goal.loop-at-smaller
loop-at-smaller c =
    let some = some_longest _ _ _ (longest c) in
    let lt : c.loop-at.at < length c.args.text.now = c.loop-at-test.true in
    omega (arith, some, lt)

pub returns-in_default-clause-err : goal.returns-in_default-clause-err
returns-in_default-clause-err c =
    let text = c.args.text.now in
    let at = c.loop-at.at in (
      c.loop-at.tokens.items,
      subst (λ (xs : List Token). Cuts text 0 xs at) (append-nil _) (c.loop-at.invariant.more [] at refl),
      c.loop-at-test.true,
      found_at text at c.front.result None c.front.ensures.value c.in_default.is,
    )

pub returns-clause-ok : goal.returns-clause-ok
returns-clause-ok c =
    let text = c.args.text.now in
    let end : c.loop-at.at ≡ length text = omega (arith, c.loop-at-test.false, c.loop-at.invariant.within) in
    subst (λ (xs : List Token). Cuts text 0 xs (length text)) (append-nil _) (c.loop-at.invariant.more [] (length text) end)

pub returns-clause-spans : goal.returns-clause-spans
returns-clause-spans c = spans_of c.args.text.now c.loop-at.tokens.items 0 (length c.args.text.now) (returns-clause-ok c)
