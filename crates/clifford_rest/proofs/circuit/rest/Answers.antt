use Rattle.std.proofs.Common.{◌≡◌, ◌≤◌, List, length, sym, subst, arith}
use Rattle.std.specs.List.{AllByRecursion}
use Rattle.tc_circuit.specs.Model.{matrix_of, t_count_of}
use Rattle.tc_circuit.specs.declared.circuit.Gate.{Gate}
use Rattle.channel_rep.specs.Cells.{scaled}
use Rattle.channel_rep.specs.Tables.{IsBuiltOf}
use Rattle.tc_bridge.specs.Channel.{IsChannel}
use Rattle.tc_bridge.specs.Steps.{steps_of}
use Rattle.clifford_rest.specs.Rest.{IsRestGate}
use Rattle.clifford_rest.proofs.Lists.{rest_gates}
use Rattle.clifford_rest.proofs.Rests.{rest_kinds, rest_count, rest_short, rest_built, rest_channel}
use Rattle.clifford_rest.proofs.circuit.rest.Goals as goal

pub returns-clause-kinds : goal.returns-clause-kinds
returns-clause-kinds c =
    let made = rest_gates c.args.c.now c.in_ok-gates.gates.items c.deref.result.now c.in_ok-circuit.circuit.gates c.in_ok-gates.ensures.value c.deref.ensures.value c.in_ok-circuit.ensures.gates in
    subst (AllByRecursion IsRestGate) (sym made) (rest_kinds c.args.c.now (omega arith) (omega arith) c.requires.permutation c.requires.channel)

pub returns-clause-no_t : goal.returns-clause-no_t
returns-clause-no_t c =
    let made = rest_gates c.args.c.now c.in_ok-gates.gates.items c.deref.result.now c.in_ok-circuit.circuit.gates c.in_ok-gates.ensures.value c.deref.ensures.value c.in_ok-circuit.ensures.gates in
    subst (λ (g : List Gate). t_count_of g ≡ 0) (sym made) (rest_count c.args.c.now (omega arith) (omega arith) c.requires.permutation c.requires.channel)

pub returns-clause-short : goal.returns-clause-short
returns-clause-short c =
    let made = rest_gates c.args.c.now c.in_ok-gates.gates.items c.deref.result.now c.in_ok-circuit.circuit.gates c.in_ok-gates.ensures.value c.deref.ensures.value c.in_ok-circuit.ensures.gates in
    subst (λ (g : List Gate). length g ≤ 45) (sym made) (rest_short c.args.c.now (omega arith) (omega arith) c.requires.permutation c.requires.channel)

pub returns-clause-built : goal.returns-clause-built
returns-clause-built c =
    let made = rest_gates c.args.c.now c.in_ok-gates.gates.items c.deref.result.now c.in_ok-circuit.circuit.gates c.in_ok-gates.ensures.value c.deref.ensures.value c.in_ok-circuit.ensures.gates in
    subst (λ (g : List Gate). IsBuiltOf c.args.c.now.qubits (steps_of g) (scaled c.args.c.now)) (sym made) (rest_built c.args.c.now (omega arith) (omega arith) c.requires.permutation c.requires.channel)

pub returns-clause-channel : goal.returns-clause-channel
returns-clause-channel c =
    let n = c.args.c.now.qubits in
    let made = rest_gates c.args.c.now c.in_ok-gates.gates.items c.deref.result.now c.in_ok-circuit.circuit.gates c.in_ok-gates.ensures.value c.deref.ensures.value c.in_ok-circuit.ensures.gates in
    subst (λ (g : List Gate). IsChannel n (matrix_of n g).table (scaled c.args.c.now)) (sym made) (rest_channel c.args.c.now (omega arith) (omega arith) c.requires.permutation c.requires.channel)
