use Rattle.std.proofs.Common.{◌≡◌, ◌≤◌, ℕ, List, length, drop}
use Rattle.qasm_reader.specs.Rows.{is_among}
use Rattle.qasm_reader.specs.View.{names, name_list}
use Rattle.qasm_reader.proofs.bodies.set_of.Given as goal

abbrev pub invariant-names : goal.invariant-names
invariant-names l = record {
  within : l.at ≤ length l.list;
  seen : (other : List ℕ) → names l.set other ≡ is_among (name_list (drop l.at l.list)) other;
}

abbrev pub decreases-names : goal.decreases-names
decreases-names l = l.at
