use Rattle.std.proofs.Common.{◌≡◌, suc, ◌-◌}
use Rattle.clifford_rest.specs.Sweep.{first_x}
use Rattle.clifford_rest.proofs.steps.QubitSweep.lowest_x.Given as goal

abbrev pub invariant-loop-j : goal.invariant-loop-j
invariant-loop-j l = first_x (suc l.q) (l.self.qubits - suc l.q) l.self.sweep.a ≡ first_x l.j (l.self.qubits - l.j) l.self.sweep.a
