use Rattle.std.proofs.Common.{◌≡◌}
use Rattle.quick_label.proofs.tests.parities.letters_divide_so_often.Given as goal

abbrev pub invariant-loop-codes : goal.invariant-loop-codes
invariant-loop-codes g l = l.parities.qubits ≡ 2
