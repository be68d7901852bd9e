use Rattle.std.proofs.Common.{◌≡◌, ◌-◌, vec_len, vec_capacity}
use Rattle.work_shares.specs.Lending.{Lends}
use Rattle.work_shares.proofs.lending.lend_to.Given as goal

abbrev pub invariant-loop-i : goal.invariant-loop-i
invariant-loop-i l = Lends l.worker l.i l.thefts.items l.fn.owners.items l.owners.items × (vec_len l.thefts ≡ l.i) × (vec_capacity l.thefts ≡ l.workers - 1)
