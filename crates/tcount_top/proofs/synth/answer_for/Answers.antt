use Rattle.std.proofs.Common.{◌≡◌, ℕ, ◌*◌, ◌<◌, ap, subst, ◌∙◌}
use Rattle.coset_label.specs.Words.{most_letters}
use Rattle.tcount_top.specs.Lines.{limit_line}
use Rattle.tcount_top.specs.Out.{most_bound}
use Rattle.tcount_top.proofs.Outcomes.{limit_out}
use Rattle.tcount_top.proofs.synth.answer_for.Goals as goal

pub returns-then-bound-limit : goal.returns-then-bound-limit
returns-then-bound-limit g c = λ text short reads.
    let n = c.args.circuit.now.qubits in
    let limit : 2 * c.most_letters-limit.result ≡ most_bound n = ap (λ (k : ℕ). 2 * k) (c.most_letters-limit.ensures ∙ ap most_letters c.qubits.ensures.value) in
    limit_out c.args.bound text c.args.circuit.now short reads (subst (λ (k : ℕ). k < c.args.bound) limit c.if-bound-limit.true) c.in_ok-line.line.items (c.in_ok-line.ensures ∙ ap (limit_line c.args.bound) limit)
