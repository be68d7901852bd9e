use Rattle.std.proofs.Common.{◌≤◌, ap, arith, rules}
use Rattle.std.proofs.Output.{has_written_append, has_written_of_eq}
use Rattle.pauli_basis.specs.Pauli.{PauliString}
use Rattle.pauli_basis.proofs.Text.{pauli_text_step, pauli_text_all}
use Rattle.pauli_basis.proofs.pauli.PauliDisplay.fmt.Goals as goal

pub loop-q-preserved : goal.loop-q-preserved
loop-q-preserved g c = λ plain.
    let few : c.loop-q.q ≤ c.args.self.now.qubits = omega (arith, ap (λ (p : PauliString). p.qubits) c.self.view_is) in
    has_written_of_eq _ _ _ _ _ (pauli_text_step c.args.self.now.qubits c.loop-q.q c.args.self.now.code c.letter.result c.letter_text.result.now (omega arith) few c.letter.ensures.value c.letter_text.ensures)
    (has_written_append _ _ _ _ c.letter_text.result.now _ (c.loop-q.invariant plain) (search rules))

pub returns-clause-writes : goal.returns-clause-writes
returns-clause-writes g c = λ plain ok. has_written_of_eq _ _ _ _ _ (pauli_text_all c.args.self.now.qubits c.loop-q.q c.args.self.now.code (omega arith)) (c.loop-q.invariant plain)
