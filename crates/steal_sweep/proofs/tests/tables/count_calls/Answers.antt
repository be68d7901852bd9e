use Rattle.std.proofs.Common.{true, map, refl}
use Rattle.work_shares.specs.Shares.{load_of}
use Rattle.steal_sweep.proofs.Found.{stands_for_none}
use Rattle.steal_sweep.proofs.tests.tables.count_calls.Goals as goal

pub for_each-requires-clause-stands : goal.for_each-requires-clause-stands
for_each-requires-clause-stands g c κs within = stands_for_none (λ _. true) c.in_ok-best.best _ _ (map load_of c.in_ok-best.shares.items) (λ k d lt. refl) c.in_ok-best.ensures.seats
