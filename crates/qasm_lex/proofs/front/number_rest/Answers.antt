use Rattle.std.proofs.Common.{◌≡◌, ◌-◌, ◌<◌, false, length, take, drop, get_or, arith, ap, ◌∙◌, length-drop}
use Rattle.std.proofs.lemmas.List.{take_all}
use Rattle.qasm_lex.specs.Bytes.{is_digit}
use Rattle.qasm_lex.specs.Front.{fraction_len}
use Rattle.qasm_lex.proofs.Lens.{number_more, number_stop}
use Rattle.qasm_lex.proofs.front.number_rest.Goals as goal
use Rattle.qasm_lex.proofs.front.number_rest.Goals.{then-loop-n-test+else-is_ascii_digit, else-loop-n-test}

pub loop-n-preserved : goal.loop-n-preserved
loop-n-preserved c =
    let e = number_more c.args.text.now c.loop-n.n (omega arith) (cc) in
    record { within = omega arith; rest = omega (arith, e, c.loop-n.invariant.rest) }

pub returns-clause-value : goal.returns-clause-value
returns-clause-value c =
    let text = c.args.text.now in
    let n = c.loop-n.n in
    let stop : n < length text → is_digit (get_or text n 0) ≡ false = elim c.loop-n-test.branch [ then-loop-n-test+else-is_ascii_digit w ↦ λ h. cc | else-loop-n-test w ↦ λ h. absurd (omega arith) ] in
    let whole : take (length text - n) (drop n text) ≡ drop n text = take_all _ _ (omega (arith, length-drop n text)) in
    let e = number_stop text n stop in
    let f = c.fraction_len.ensures.value ∙ ap fraction_len whole in
    omega (arith, e, f, c.loop-n.invariant.rest)
