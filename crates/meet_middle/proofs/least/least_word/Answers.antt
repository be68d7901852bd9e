use Rattle.std.proofs.Common.{ℕ, IfNone, ◌<◌, ◌+◌, ◌∙◌, arith, rules, subst}
use Rattle.channel_rep.specs.Cells.{scaled}
use Rattle.level_laws.specs.Levels.{NoneBelow}
use Rattle.level_laws.proofs.Exponents.{none_past, reduced_least}
use Rattle.meet_middle.specs.Fronts.{total_of}
use Rattle.meet_middle.proofs.Halving.{half_of}
use Rattle.meet_middle.proofs.least.least_word.Goals as goal

pub returns-then-exponent-bound-clause-answer : goal.returns-then-exponent-bound-clause-answer
returns-then-exponent-bound-clause-answer g c =
    let m = c.args.target.now in
    let l : c.args.bound < m.exponent = search rules in
    none_past m.qubits (scaled m) (reduced_least m c.requires.reduced) c.args.bound l

pub returns-in_err-reach-clause-low : goal.returns-in_err-reach-clause-low
returns-in_err-reach-clause-low g c =
    λ k a b.
    let l = half_of c.halves-half.result.0 c.halves-half.result.1 in
    c.reach.ensures.low k (c.loop-total.invariant.low k a b) (omega (arith, l.0, l.1, c.halves-half.ensures))

pub returns-in_err-word-clause-low : goal.returns-in_err-word-clause-low
returns-in_err-word-clause-low g c =
    λ k a b.
    let l = half_of c.halves-half.result.0 c.halves-half.result.1 in
    c.reach.ensures.low k (c.loop-total.invariant.low k a b) (omega (arith, l.0, l.1, c.halves-half.ensures))

pub returns-in-Some-clause-low : goal.returns-in-Some-clause-low
returns-in-Some-clause-low g c =
    λ k a b.
    let l = half_of c.halves-half.result.0 c.halves-half.result.1 in
    c.reach.ensures.low k (c.loop-total.invariant.low k a b) (omega (arith, l.0, l.1, c.halves-half.ensures))

pub loop-total-preserved : goal.loop-total-preserved
loop-total-preserved g c =
    let n = c.args.target.now.qubits in
    let m = scaled c.args.target.now in
    let half = c.halves-half.result.0 in
    let odd = c.halves-half.result.1 in
    let l = half_of half odd in
    record {
      qubits = c.reach.ensures.qubits ∙ c.loop-total.invariant.qubits;
      none = subst (λ (t : ℕ). NoneBelow n m (t + 1)) c.halves-half.ensures (subst (λ o. IfNone o (NoneBelow n m (total_of half odd + 1))) c.in_default.is c.in_ok-word.ensures.none);
      near = omega (arith, l.0, l.1, c.halves-half.ensures, c.in_ok-reach.ensures.there);
      low = λ k a b. c.reach.ensures.low k (c.loop-total.invariant.low k a b) (omega (arith, l.0, l.1, c.halves-half.ensures));
    }
