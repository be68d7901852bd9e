use Rattle.std.proofs.Common.{◌≡◌}
use Rattle.std.specs.List.{All}
use Rattle.pauli_basis.specs.Pauli.{PauliString}
use Rattle.printed_texts.proofs.tests.word.Given as goal

abbrev pub invariant-loop-code : goal.invariant-loop-code
invariant-loop-code l = All (λ (letter : PauliString). letter.qubits ≡ l.n) l.word.items
