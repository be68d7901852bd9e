use Rattle.std.proofs.Common.{◌≡◌, ◌+◌, ◌++◌, ◌≤◌, ℕ, List, arith, ap, ◌∙◌, sym, subst}
use Rattle.tc_circuit.specs.Circuit.{Gates}
use Rattle.tc_circuit.specs.declared.circuit.Gate.{Gate}
use Rattle.tc_circuit.specs.Model.{IsCircuit, t_count_of}
use Rattle.qasm_reader.specs.Known.{known}
use Rattle.qasm_reader.specs.Pieces.{source_gates}
use Rattle.qasm_reader.specs.View.{gates_with, gates_made, meanings_behind}
use Rattle.tc_circuit.proofs.Counts.{t_count-append}
use Rattle.qasm_reader.proofs.Kept.{t_count-made}
use Rattle.qasm_reader.proofs.declare.with_gates.Goals as goal

pub push_gates-requires : goal.push_gates-requires
push_gates-requires c =
    let qs = c.args.qubits.now in
    let pushed = ap (λ (l : List Gate). gates_with c.args.size l qs) (c.deref.ensures.value ∙ c.in_ok-gates.ensures) in
    subst (λ (n : ℕ). IsCircuit n (gates_with c.args.size c.deref.result.now qs)) (sym c.circuit_so_far-circuit.ensures.qubits) (subst (IsCircuit c.args.scan.qubits) (sym pushed) c.requires.addable.fit)

pub overflow_add-result : goal.overflow_add-result
overflow_add-result c = omega (arith, c.t_count_at.ensures, c.requires.addable.counted, c.requires.addable.few, t_count-made c.args.scan.circuit c.args.scan.t_count c.args.scan.t_is c.args.scan.t_none)

pub invariant_of-result-clause-t_is : goal.invariant_of-result-clause-t_is
invariant_of-result-clause-t_is c =
    let old = gates_made c.args.scan.circuit in
    let qs = c.args.qubits.now in
    let more = gates_with c.args.size (source_gates (meanings_behind known c.args.scan.definitions.list.items) c.args.source) qs in
    let pushed = ap (λ (l : List Gate). gates_with c.args.size l qs) (c.deref.ensures.value ∙ c.in_ok-gates.ensures) in
    let gates : c.push_gates.new.circuit.gates ≡ old ++ more =
    c.in_ok-push_gates.ensures.gates ∙ ap (λ (l : List Gate). l ++ gates_with c.args.size c.deref.result.now qs) c.circuit_so_far-circuit.ensures.gates ∙ ap (λ (l : List Gate). old ++ l) pushed in
    let made = t_count-made c.args.scan.circuit c.args.scan.t_count c.args.scan.t_is c.args.scan.t_none in
    let all : c.args.scan.t_count + c.t_count_at.result ≡ t_count_of c.push_gates.new.circuit.gates =
    omega (arith, made, c.t_count_at.ensures, c.requires.addable.counted, c.requires.addable.few, t_count-append old more, ap t_count_of gates) in
    λ x e. let same : c.push_gates.new.circuit ≡ x = cc in subst (λ (y : Gates). c.args.scan.t_count + c.t_count_at.result ≡ t_count_of y.gates) same all

pub invariant_of-result-clause-t_few : goal.invariant_of-result-clause-t_few
invariant_of-result-clause-t_few c = omega (arith, c.t_count_at.ensures, c.requires.addable.counted, c.requires.addable.few, t_count-made c.args.scan.circuit c.args.scan.t_count c.args.scan.t_is c.args.scan.t_none)
