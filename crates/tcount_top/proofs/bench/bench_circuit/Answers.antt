use Rattle.std.proofs.Common.{ℕ, List, ◌++◌, ◌∙◌, ap, sym, subst, length}
use Rattle.pauli_basis.specs.Pauli.{PauliString}
use Rattle.tc_circuit.specs.Model.{IsCircuit, t_count_of}
use Rattle.tc_circuit.specs.declared.circuit.Gate.{Gate}
use Rattle.tc_bridge.specs.Block.{word_gates}
use Rattle.tcount_top.specs.Printed.{codes_of}
use Rattle.tcount_top.proofs.bench.bench_circuit.Goals as goal

pub push_all-requires : goal.push_all-requires
push_all-requires c =
    subst (λ (k : ℕ). IsCircuit k c.deref-2.result.now) (sym c.new-circuit.ensures.qubits)
    (subst (λ (l : List Gate). IsCircuit c.args.n l) (sym c.deref-2.ensures.value) c.in_ok-blocks.ensures.circuit)

-- the blocks stand behind no gates
pub returns-clause-gates : goal.returns-clause-gates
returns-clause-gates c =
    let added = c.in_ok-push_all.ensures.gates ∙ (λ i. c.new-circuit.ensures.gates i ++ c.deref-2.ensures.value i) in
    added ∙ c.in_ok-blocks.ensures.blocks ∙ ap (word_gates c.args.n) (ap codes_of c.deref.ensures.value ∙ c.in_ok-letters.ensures.codes)

pub returns-clause-t_gates : goal.returns-clause-t_gates
returns-clause-t_gates c =
    let added = c.in_ok-push_all.ensures.gates ∙ (λ i. c.new-circuit.ensures.gates i ++ c.deref-2.ensures.value i) in
    ap t_count_of added ∙ c.in_ok-blocks.ensures.count ∙ ap (λ (l : List PauliString). length l) c.deref.ensures.value ∙ c.in_ok-letters.ensures.long
