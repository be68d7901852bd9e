use Rattle.std.proofs.Common.{◌∙◌}
use Rattle.work_shares.proofs.Fresh.{seated_fresh}
use Rattle.work_shares.proofs.dealing.share_at.Goals as goal

pub invariant_of-result : goal.invariant_of-result
invariant_of-result g c =
    let r = c.requires in
    let n = c.in_ok-noted.ensures in
    record {
      seated = seated_fresh c.args.cut c.args.workers c.args.worker c.args.own c.args.thefts c.in_ok-noted.noted r.worker.0 r.worker.1 r.own r.thefts n.items n.len (n.exact ∙ c.count.ensures);
      empty = c.in_ok-room.ensures.empty;
      roomy = c.in_ok-room.ensures.room;
    }
