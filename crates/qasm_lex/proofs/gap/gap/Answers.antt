use Rattle.std.proofs.Common.{◌≡◌, ◌+◌, List, ℕ, length, drop, arith, ap, ◌∙◌, sym, subst, length-drop, drop-drop}
use Rattle.qasm_lex.specs.Tokens.{gap}
use Rattle.qasm_lex.specs.Front.{skip_len}
use Rattle.qasm_lex.proofs.Gaps.{steps}
use Rattle.qasm_lex.proofs.Rest.{rest_is}
use Rattle.qasm_lex.proofs.gap.gap.Goals as goal

pub loop-more-init : goal.loop-more-init
loop-more-init c = record { within = omega (arith, c.skip_len-more.ensures.within); rest = omega arith; next = c.skip_len-more.ensures.value }

pub loop-more-preserved : goal.loop-more-preserved
loop-more-preserved c =
    let text = c.args.text.now in
    let at = c.loop-more.at in
    let more = c.loop-more.more in
    let step = (steps (drop at text)).more in
    let next : drop more (drop at text) ≡ drop (at + more) text = grind (arith, drop-drop) in
    let gaps : gap (drop at text) ≡ more + gap (drop (at + more) text) = subst (λ (n : ℕ). gap (drop at text) ≡ n + gap (drop n (drop at text))) (sym c.loop-more.invariant.next) step ∙ ap (λ (l : List ℕ). more + gap l) next in
    let value = c.skip_len-more-in-loop-more.ensures.value ∙ ap skip_len (rest_is text (at + more)) in
    record { within = omega (arith, c.skip_len-more-in-loop-more.ensures.within, ap length (rest_is text (at + more)), length-drop (at + more) text); rest = omega (arith, gaps, c.loop-more.invariant.rest); next = value }

pub returns-clause-value : goal.returns-clause-value
returns-clause-value c =
    let text = c.args.text.now in
    let none = (steps (drop c.loop-more.at text)).none (sym c.loop-more.invariant.next ∙ omega arith) in
    omega (arith, none, c.loop-more.invariant.rest)
