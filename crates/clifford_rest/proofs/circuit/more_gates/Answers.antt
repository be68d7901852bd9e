use Rattle.std.proofs.Common.{◌≡◌, ℕ, ◌*◌, ◌^◌, ap, ◌∙◌, arith}
use Rattle.channel_rep.specs.Cells.{table_of}
use Rattle.tc_bridge.proofs.CircuitChannels.{z_on-lt}
use Rattle.pauli_basis.specs.Products.{Signed}
use Rattle.clifford_rest.specs.Rest.{sent_to}
use Rattle.channel_rep.specs.Conjugations.{conjugated_by}
use Rattle.clifford_rest.specs.Sweep.{qubit_gates}
use Rattle.clifford_rest.proofs.circuit.more_gates.Goals as goal

pub image_behind-a-requires-clause-below : goal.image_behind-a-requires-clause-below
image_behind-a-requires-clause-below c = omega (arith, z_on-lt c.args.c.now.qubits c.args.q c.requires.qubit)

pub image_behind-b-requires-clause-below : goal.image_behind-b-requires-clause-below
image_behind-b-requires-clause-below c = omega (arith, z_on-lt c.args.c.now.qubits c.args.q c.requires.qubit)

pub returns-clause-gates : goal.returns-clause-gates
returns-clause-gates c =
    let n = c.args.c.now.qubits in
    let image : ℕ → Signed = λ (k : ℕ). conjugated_by n c.args.gates.now (sent_to n (table_of c.args.c.now) k) in
    let a : c.image_behind-a.result ≡ image (4 ^ c.args.q) = c.image_behind-a.ensures.value ∙ ap image c.x_on.ensures in
    let b : c.image_behind-b.result ≡ image (3 * 4 ^ c.args.q) = c.image_behind-b.ensures.value ∙ ap image c.z_on.ensures in
    let here : c.qubits-n.result ≡ n = c.qubits-n.ensures.value in
    c.in_ok-qubit.ensures.gates ∙ (λ i. qubit_gates (here i) c.args.q (a i) (b i))
