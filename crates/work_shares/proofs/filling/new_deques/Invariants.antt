use Rattle.std.proofs.Common.{◌≡◌, vec_capacity}
use Rattle.work_shares.specs.Owners.{AreFilled}
use Rattle.work_shares.proofs.filling.new_deques.Given as goal

abbrev pub invariant-loop-worker : goal.invariant-loop-worker
invariant-loop-worker l = AreFilled l.count l.workers l.worker l.owners.items × (vec_capacity l.owners ≡ l.workers)
