use Rattle.std.proofs.Common.{ℕ, ◌+◌, ◌<◌, ◌≤◌, cond, get_or, take, List, ap, sym, subst, ◌∙◌, arith}
use Rattle.tc_circuit.specs.Gate.{is_t}
use Rattle.tc_circuit.specs.Model.{matrix_of, IsCircuit, t_count_of}
use Rattle.tc_circuit.specs.declared.circuit.Gate.{Gate}
use Rattle.channel_rep.specs.Cells.{scaled, most_exponent}
use Rattle.channel_rep.specs.Tables.{Step, built}
use Rattle.tc_bridge.specs.Steps.{steps_of}
use Rattle.tc_bridge.specs.Progress.{HasTaken}
use Rattle.tc_bridge.proofs.Channels.{same_table_channel}
use Rattle.tc_bridge.proofs.CircuitChannels.{circuit_channel, steps_fit}
use Rattle.tc_bridge.proofs.Clauses.{word_then_clifford}
use Rattle.tc_circuit.specs.declared.circuit.Gate.TheVariants.{H}
use Rattle.tc_bridge.proofs.Prefixes.{count_more, count_low, steps_more, built_all}
use Rattle.tc_bridge.proofs.channel.channel_of.Goals as goal

pub take-requires-clause-room : goal.take-requires-clause-room
take-requires-clause-room c =
    let gates = c.gates-gates.result.now in
    let i = c.loop-gate.gate-index in
    let few : t_count_of gates ≤ most_exponent = subst (λ (g : List Gate). t_count_of g ≤ most_exponent) (sym c.gates-gates.ensures.value) c.requires in
    let low : t_count_of (take i gates) + cond (is_t (get_or gates i (H 0))) 1 0 ≤ most_exponent = omega (arith, few, count_low gates i c.loop-gate-test.true (H 0)) in
    subst (λ (k : ℕ). k + cond (is_t (get_or gates i (H 0))) 1 0 ≤ most_exponent) (sym c.loop-gate.invariant.exponent) low

pub loop-gate-preserved : goal.loop-gate-preserved
loop-gate-preserved c =
    let inv = c.loop-gate.invariant in
    let gates = c.gates-gates.result.now in
    record {
      qubits = c.take.ensures.qubits ∙ inv.qubits;
      exponent = c.take.ensures.exponent ∙ ap (λ k. k + cond (is_t (get_or gates c.loop-gate.gate-index (H 0))) 1 0) inv.exponent ∙ sym (count_more gates c.loop-gate.gate-index c.loop-gate-test.true (H 0));
      taken = subst (λ (steps : List Step). HasTaken steps c.take.new.self) (sym (steps_more gates c.loop-gate.gate-index c.loop-gate-test.true (H 0))) (c.take.ensures.taken _ inv.taken);
    }

-- the word of the circuit
pub returns-clause-word : goal.returns-clause-word
returns-clause-word c =
    let n = c.args.c.now.qubits in
    let some : 0 < n = omega arith in
    let few : n ≤ 3 = omega arith in
    word_then_clifford n some few c.args.c.now.gates (subst (IsCircuit n) c.gates-gates.ensures.value c.gates-gates.ensures.fit)

pub returns-in_err-progress-clause-word : goal.returns-in_err-progress-clause-word
returns-in_err-progress-clause-word c =
    let n = c.args.c.now.qubits in
    let some : 0 < n = omega arith in
    let few : n ≤ 3 = omega arith in
    word_then_clifford n some few c.args.c.now.gates (subst (IsCircuit n) c.gates-gates.ensures.value c.gates-gates.ensures.fit)

pub returns-clause-built : goal.returns-clause-built
returns-clause-built c =
    let n = c.args.c.now.qubits in
    let gates = c.args.c.now.gates in
    let inv = c.loop-gate.invariant in
    built_all c.gates-gates.result.now gates c.loop-gate.gate-index _ _ n (scaled c.finish-channel.result) (scaled c.reduce.new.self) c.loop-gate-test.false c.gates-gates.ensures.value inv.qubits c.finish-channel.ensures.qubits (c.finish-channel.ensures.built _ inv.taken) c.reduce.ensures.built

pub returns-clause-of_a_circuit : goal.returns-clause-of_a_circuit
returns-clause-of_a_circuit c =
    let n = c.args.c.now.qubits in
    let gates = c.args.c.now.gates in
    let inv = c.loop-gate.invariant in (
      steps_of gates,
      steps_fit n gates (subst (IsCircuit n) c.gates-gates.ensures.value c.gates-gates.ensures.fit),
      built_all c.gates-gates.result.now gates c.loop-gate.gate-index _ _ n (scaled c.finish-channel.result) (scaled c.reduce.new.self) c.loop-gate-test.false c.gates-gates.ensures.value inv.qubits c.finish-channel.ensures.qubits (c.finish-channel.ensures.built _ inv.taken) c.reduce.ensures.built,
    )

pub returns-clause-channel : goal.returns-clause-channel
returns-clause-channel c =
    let n = c.args.c.now.qubits in
    let gates = c.args.c.now.gates in
    let some : 0 < n = omega arith in
    let few : n ≤ 3 = omega arith in
    let inv = c.loop-gate.invariant in
    same_table_channel n (matrix_of n gates).table (built n (steps_of gates)) (scaled c.reduce.new.self)
    (built_all c.gates-gates.result.now gates c.loop-gate.gate-index _ _ n (scaled c.finish-channel.result) (scaled c.reduce.new.self) c.loop-gate-test.false c.gates-gates.ensures.value inv.qubits c.finish-channel.ensures.qubits (c.finish-channel.ensures.built _ inv.taken) c.reduce.ensures.built)
    (circuit_channel n some few gates (subst (IsCircuit n) c.gates-gates.ensures.value c.gates-gates.ensures.fit))
