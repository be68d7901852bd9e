use Rattle.std.proofs.Common.{◌≡◌, ◌+◌, ◌-◌, ◌≤◌, length}
use Rattle.level_store.specs.Stored.{levels_of, qubits_of_all}
use Rattle.tcount_top.proofs.sizes.levels_to.Given as goal

abbrev pub invariant-loop-alloc : goal.invariant-loop-alloc
invariant-loop-alloc g l = record {
  qubits : qubits_of_all l.levels ≡ l.qubits;
  low : length (levels_of l.levels) ≤ l.top + 1;
}

abbrev pub decreases-loop-alloc : goal.decreases-loop-alloc
decreases-loop-alloc g l = l.top + 1 - length (levels_of l.levels)
