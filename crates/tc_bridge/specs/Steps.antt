-- The steps of a circuit: a Clifford gate is a step of its own, and t and tdg are the rotation by Z on their qubit and its inverse.
use Rattle.std.specs.Prelude.{ℕ, ◌*◌, ◌^◌, List, [], ◌∷◌}
use Rattle.tc_circuit.specs.declared.circuit.Gate.{Gate}
use Rattle.tc_circuit.specs.declared.circuit.Gate.TheVariants.{H, S, Sdg, T, Tdg, Cx}
use Rattle.channel_rep.specs.declared.gate.ChannelGate.{ChannelGate}
use Rattle.channel_rep.specs.Tables.{Step, by_gate, by_rotation, by_inverse_rotation}

-- the code of Z on one qubit
abbrev pub z_on : ℕ → ℕ
z_on q = 3 * 4 ^ q

-- the step of a gate
abbrev pub step_of : Gate → Step
step_of (H q) = by_gate (ChannelGate.H q)
step_of (S q) = by_gate (ChannelGate.S q)
step_of (Sdg q) = by_gate (ChannelGate.Sdg q)
step_of (T q) = by_rotation (z_on q)
step_of (Tdg q) = by_inverse_rotation (z_on q)
step_of (Cx control target) = by_gate (ChannelGate.Cx control target)

-- the steps of gates
abbrev pub steps_of : List Gate → List Step
steps_of [] = []
steps_of (g ∷ gates) = step_of g ∷ steps_of gates
