use Rattle.std.proofs.Common.{◌^◌, ◌<◌, sym, subst}
use Rattle.label_laws.specs.Sparse.{AreWeights}
use Rattle.quick_label.specs.Weights.{before_letter}
use Rattle.quick_label.proofs.Closed.{closed_by}
use Rattle.quick_label.proofs.before.take_before.Goals as goal

pub take_before-requires-clause-closed : goal.take_before-requires-clause-closed
take_before-requires-clause-closed c = closed_by c.args.n c.args.p _ c.requires.weights c.requires.letter

pub returns-clause-are : goal.returns-clause-are
returns-clause-are c = λ w letter are.
    let n = c.args.n in
    let e = c.requires.weights in
    let given = c.args.weights.now in
    let new = c.take_before.new.self in
    subst (λ k. AreWeights k (before_letter n c.args.p c.args.divisions w) new.wholes new.parts) e
    (c.take_before.ensures.are n w (λ row l. letter.commutes row (subst (λ k. row < k) e l)) (λ row l. letter.signs row (subst (λ k. row < k) e l)) (subst (λ k. AreWeights k w given.wholes given.parts) (sym e) are))
