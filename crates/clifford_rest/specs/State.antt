-- What the code's sweep of one qubit shows.
use Rattle.std.specs.Prelude.{ℕ, ◌*◌, ◌^◌, ◌<◌, ◌≤◌, List}
use Rattle.std.specs.List.{AllByRecursion}
use Rattle.channel_rep.specs.Cells.{ChannelGrid, table_of}
use Rattle.channel_rep.specs.Gates.{GateFits}
use Rattle.channel_rep.specs.declared.gate.ChannelGate.{ChannelGate}
use Rattle.clifford_rest.specs.Rest.{sent_to}
use Rattle.channel_rep.specs.Conjugations.{conjugated_by}
use Rattle.clifford_rest.specs.Sweep.{Sweep, qubit_gates}

-- a sweep on so many qubits
pub record Sweeping : Type 0 where
  pub qubits : ℕ
  pub sweep : Sweep

-- one to three qubits, Paulis on these, and gates of these
pub record IsSweeping (s : Sweeping) : Type 0 where
  pub some : 0 < s.qubits
  pub few : s.qubits ≤ 3
  pub a_below : s.sweep.a.code < 4 ^ s.qubits
  pub b_below : s.sweep.b.code < 4 ^ s.qubits
  pub fit : AllByRecursion (GateFits s.qubits) s.sweep.gates

-- the gates that undo qubit q of an operator, from its channel, with gates behind it
abbrev pub gates_behind : ChannelGrid → List ChannelGate → ℕ → List ChannelGate
gates_behind c gates q =
    let made = sent_to c.qubits (table_of c) in
    qubit_gates c.qubits q (conjugated_by c.qubits gates (made (4 ^ q))) (conjugated_by c.qubits gates (made (3 * 4 ^ q)))
