use Rattle.std.proofs.Common.{◌∙◌}
use Rattle.work_shares.proofs.Handing.{filled_more}
use Rattle.work_shares.proofs.filling.new_deques.Goals as goal

pub loop-worker-preserved : goal.loop-worker-preserved
loop-worker-preserved c =
    let i = c.loop-worker.invariant in
    let e = c.push_reserved.ensures in
    (filled_more c.args.count c.args.workers c.loop-worker.worker c.loop-worker.owners.items c.push_reserved.new.self.items c.in_ok-owner.owner i.0 c.in_ok-owner.ensures e.items, e.capacity ∙ i.1)
