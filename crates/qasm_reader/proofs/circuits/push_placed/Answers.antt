use Rattle.std.proofs.Common.{ℕ, sym, subst}
use Rattle.tc_circuit.specs.Gate.{Fits}
use Rattle.qasm_reader.specs.State.{placed}
use Rattle.qasm_reader.proofs.Placing.{fits_at}
use Rattle.qasm_reader.proofs.circuits.push_placed.Goals as goal

pub push-requires : goal.push-requires
push-requires c =
    let here = fits_at c.args.circuit.now.qubits (placed c.args.qubits.now) c.args.gates.now c.loop-gate.gate-index _ c.requires c.loop-gate-test.true in
    subst (λ (n : ℕ). Fits n c.placed.result) (sym c.loop-gate.invariant.qubits) (subst (Fits c.args.circuit.now.qubits) (sym c.placed.ensures) here)
