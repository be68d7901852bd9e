use Rattle.std.proofs.Common.{◌≡◌, All, length}
use Rattle.meet_middle.proofs.trail.rests_of.Given as goal

abbrev pub invariant-loop : goal.invariant-loop
invariant-loop l = record {
  long : length l.rests.items ≡ l.counter;
  all : All (λ r. r ≡ l.target) l.rests.items;
}
