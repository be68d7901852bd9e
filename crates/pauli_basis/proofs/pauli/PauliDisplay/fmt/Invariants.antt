use Rattle.std.proofs.Common.{◌-◌, take}
use Rattle.std.specs.Fmt.{HasWritten, IsPlainFormatter}
use Rattle.pauli_basis.specs.Pauli.{pauli_text}
use Rattle.pauli_basis.proofs.pauli.PauliDisplay.fmt.Given as goal

abbrev pub invariant-loop-q : goal.invariant-loop-q
invariant-loop-q g l =
    IsPlainFormatter l.initial.f → HasWritten g.W.Write.write_str_gives l.initial.f (take (l.self.qubits - l.q) (pauli_text l.self.qubits l.self.code)) l.f
