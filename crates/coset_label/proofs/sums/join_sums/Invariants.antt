use Rattle.std.proofs.Common.{◌≡◌, take}
use Rattle.coset_label.specs.Sums.{joined_sums}
use Rattle.coset_label.proofs.sums.join_sums.Given as goal

abbrev pub invariant-loop-place : goal.invariant-loop-place
invariant-loop-place l = l.f ≡ joined_sums l.power l.sums l.negative l.first (take l.place l.order)
