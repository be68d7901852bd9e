use Rattle.std.proofs.Common.{ℕ, ◌∷◌, [], map, get_or, sym, subst}
use Rattle.tc_circuit.specs.Model.{IsCircuit}
use Rattle.qasm_reader.specs.State.{placed}
use Rattle.qasm_reader.proofs.Placing.{circuit_at}
use Rattle.qasm_reader.proofs.circuits.push_each.Goals as goal

pub push_placed-requires : goal.push_placed-requires
push_placed-requires c =
    let qs = c.args.qubits.now in
    let i = c.loop-q.q-index in
    let here = circuit_at c.args.circuit.now.qubits c.args.gates.now qs i c.requires c.loop-q-test.true in
    subst (λ (n : ℕ). IsCircuit n (map (placed (get_or qs i 0 ∷ [])) c.args.gates.now)) (sym c.loop-q.invariant.qubits) here
