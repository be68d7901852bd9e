use Rattle.std.proofs.Common.{◌≡◌, ◌+◌, ◌-◌, length}
use Rattle.level_store.specs.Stored.{qubits_of_all, levels_of}
use Rattle.level_store.proofs.tests.grow_all.Given as goal

abbrev pub invariant-loop-alloc : goal.invariant-loop-alloc
invariant-loop-alloc g l = record {
  qubits : qubits_of_all l.levels ≡ l.n;
}

abbrev pub decreases-loop-alloc : goal.decreases-loop-alloc
decreases-loop-alloc g l = l.top + 1 - length (levels_of l.levels)
