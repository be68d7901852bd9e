use Rattle.std.proofs.Common.{◌≡◌, take}
use Rattle.tc_circuit.specs.Model.{t_count_of}
use Rattle.tc_bridge.specs.Steps.{steps_of}
use Rattle.tc_bridge.specs.Progress.{HasTaken}
use Rattle.tc_bridge.proofs.channel.channel_of.Given as goal

-- the gates so far are taken
abbrev pub invariant-loop-gate : goal.invariant-loop-gate
invariant-loop-gate l = record {
  qubits : l.progress.channel.qubits ≡ l.c.qubits;
  exponent : l.progress.channel.exponent ≡ t_count_of (take l.gate-index l.gates);
  taken : HasTaken (steps_of (take l.gate-index l.gates)) l.progress;
}
