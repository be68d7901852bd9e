use Rattle.std.proofs.Common.{◌≡◌, ◌<◌, ℕ, [], map, get_or}
use Rattle.crossbeam_deque.specs.Handles.{worker_view}
use Rattle.work_shares.specs.Rule.{Learnt}
use Rattle.work_shares.specs.Owners.{Owner}
use Rattle.work_shares.proofs.returns.learn_all.Given as goal

abbrev pub invariant-loop-i : goal.invariant-loop-i
invariant-loop-i l =
    (map (λ (owner : Owner). worker_view owner) l.owners.items ≡ map (λ (owner : Owner). worker_view owner) l.fn.owners.items)
    × ((k : ℕ) → k < l.i → (d : Owner) → Learnt (worker_view (get_or l.fn.owners.items k d)) [])
