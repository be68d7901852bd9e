use Rattle.std.proofs.Common.{◌≡◌, ◌-◌}
use Rattle.clifford_rest.specs.Sweep.{each, clear_a}
use Rattle.clifford_rest.proofs.steps.QubitSweep.clear_all_a.Given as goal

abbrev pub invariant-loop-j : goal.invariant-loop-j
invariant-loop-j l = l.self ≡ record l.initial.self { sweep = each (clear_a l.initial.self.qubits) l.q (l.j - l.q) l.initial.self.sweep }
