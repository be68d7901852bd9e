use Rattle.std.proofs.Common.{◌≡◌, ◌+◌, ◌*◌, ◌≤◌, ℕ, length}
use Rattle.channel_rep.specs.Cells.{scaled}
use Rattle.level_laws.specs.Levels.{NoneBelow}
use Rattle.level_store.specs.Stored.{qubits_of_all, levels_of}
use Rattle.meet_middle.proofs.least.least_word.Given as goal

abbrev pub invariant-loop-total : goal.invariant-loop-total
invariant-loop-total g l = record {
  qubits : qubits_of_all l.levels ≡ l.target.qubits;
  none : NoneBelow l.target.qubits (scaled l.target) l.total;
  near : l.total ≤ 2 * length (levels_of l.levels);
  low : (k : ℕ) → length (levels_of l.fn.levels) ≤ k + 1 → l.bound ≤ 2 * k + 1 → length (levels_of l.levels) ≤ k + 1;
}
