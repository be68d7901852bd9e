use Rattle.std.proofs.Common.{◌≡◌, suc, ◌-◌}
use Rattle.clifford_rest.specs.Sweep.{each, drop_b}
use Rattle.clifford_rest.proofs.steps.QubitSweep.drop_all_b.Given as goal

abbrev pub invariant-loop-j : goal.invariant-loop-j
invariant-loop-j l = l.self ≡ record l.initial.self { sweep = each (drop_b l.initial.self.qubits l.q) (suc l.q) (l.j - (suc l.q)) l.initial.self.sweep }
