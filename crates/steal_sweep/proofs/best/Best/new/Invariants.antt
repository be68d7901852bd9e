use Rattle.std.proofs.Common.{◌≡◌, ◌+◌, [], length, All, sum_by}
use Rattle.steal_sweep.specs.Seats.{known_by, IsSeatOf}
use Rattle.steal_sweep.proofs.best.Best.new.Given as goal

abbrev pub invariant-loop : goal.invariant-loop
invariant-loop l = record {
  seat : All (IsSeatOf l.best) l.all.items;
  new : All (λ s. (known_by s).put ≡ []) l.all.items;
  whole : sum_by (λ s. (known_by s).parts) l.all.items + (known_by l.first).parts ≡ 8;
  seen : All (λ s. (known_by s).seen ≡ []) l.all.items;
  first_seat : IsSeatOf l.best l.first;
  first_new : (known_by l.first).put ≡ [];
  first_seen : (known_by l.first).seen ≡ [];
  first_parts : (known_by l.first).parts + l.counter ≡ 9;
  count : length l.all.items + 1 ≡ l.counter;
}
