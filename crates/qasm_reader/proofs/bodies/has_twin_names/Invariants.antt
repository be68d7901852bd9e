use Rattle.std.proofs.Common.{◌≡◌, ◌≤◌, ℕ, List, false, length, drop}
use Rattle.qasm_reader.specs.Rows.{is_among, has_twin_names}
use Rattle.qasm_reader.specs.View.{names, name_list}
use Rattle.qasm_reader.proofs.bodies.has_twin_names.Given as goal

abbrev pub invariant-names : goal.invariant-names
invariant-names l = record {
  within : l.at ≤ length l.list;
  none : has_twin_names (name_list (drop l.at l.list)) ≡ false;
  seen : (other : List ℕ) → names l.behind other ≡ is_among (name_list (drop l.at l.list)) other;
}

abbrev pub decreases-names : goal.decreases-names
decreases-names l = l.at
