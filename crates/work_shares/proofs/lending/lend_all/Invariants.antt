use Rattle.std.proofs.Common.{◌≡◌, vec_capacity}
use Rattle.work_shares.specs.Lending.{LendsAll}
use Rattle.work_shares.proofs.lending.lend_all.Given as goal

abbrev pub invariant-loop-worker : goal.invariant-loop-worker
invariant-loop-worker l = LendsAll l.worker l.all.items l.fn.owners.items l.owners.items × (vec_capacity l.all ≡ l.workers)
