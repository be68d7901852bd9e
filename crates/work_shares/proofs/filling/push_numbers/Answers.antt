use Rattle.work_shares.proofs.Pushing.{has_start, has_step}
use Rattle.work_shares.proofs.filling.push_numbers.Goals as goal

pub loop-number-init : goal.loop-number-init
loop-number-init c = has_start c.args.count c.args.workers c.args.worker c.args.owner.now c.requires.worker.0 c.requires.empty.0 c.requires.empty.1

pub loop-number-preserved : goal.loop-number-preserved
loop-number-preserved c =
    let e = c.push.ensures in
    has_step c.args.count c.args.workers c.args.worker c.loop-number.number c.args.owner.now c.loop-number.owner c.push.new.owner c.requires.worker.0 c.loop-number-test.true c.loop-number.invariant e.view e.same.1 e.same.0
