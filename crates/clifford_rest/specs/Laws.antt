-- What the laws of this crate say. Each speaks of any table of one to three qubits that a `Channel` may show.
use Rattle.std.specs.Prelude.{◌≡◌, ◌^◌, ◌<◌, ◌≤◌, List, length}
use Rattle.std.specs.List.{AllByRecursion}
use Rattle.ring_laws.specs.Matrix.{identity, Agree}
use Rattle.tc_ring.specs.Surds.{surds}
use Rattle.tc_circuit.specs.Model.{matrix_of, IsCircuit, t_count_of}
use Rattle.tc_circuit.specs.declared.circuit.Gate.{Gate}
use Rattle.channel_rep.specs.Cells.{ChannelGrid, scaled, IsReduced, IsSignedPermutation}
use Rattle.channel_rep.specs.Gates.{GateFits}
use Rattle.channel_rep.specs.Tables.{built_on, IsBuiltOf, IsCircuitChannel}
use Rattle.tc_bridge.specs.Block.{as_gates}
use Rattle.tc_bridge.specs.Channel.{IsChannel}
use Rattle.tc_bridge.specs.Steps.{steps_of}
use Rattle.clifford_rest.specs.Rest.{undo_gates, rest_of}

-- a signed permutation that is a circuit's channel, on one to three qubits
pub record IsCliffordChannel (c : ChannelGrid) : Type 0 where
  pub some : 0 < c.qubits
  pub few : c.qubits ≤ 3
  pub permutation : IsSignedPermutation c
  pub channel : IsCircuitChannel c.qubits (scaled c)

-- the channel with the sweep's gates behind it is the identity, and these are at most 45 gates
pub record EndsAtIdentity (c : ChannelGrid) : Type 0 where
  pub fit : AllByRecursion (GateFits c.qubits) (undo_gates c)
  pub short : length (undo_gates c) ≤ 45
  pub table : Agree surds (4 ^ c.qubits) (built_on c.qubits (scaled c) (steps_of (as_gates (undo_gates c)))).table (identity surds)
  pub exponent : (built_on c.qubits (scaled c) (steps_of (as_gates (undo_gates c)))).exponent ≡ 0

abbrev pub SweepsEndAtIdentity : Type 0
SweepsEndAtIdentity = (c : ChannelGrid) → IsCliffordChannel c → EndsAtIdentity c

-- a circuit without T gates that has this channel
pub record IsCliffordCircuit (c : ChannelGrid) (gates : List Gate) : Type 0 where
  pub fits : IsCircuit c.qubits gates
  pub no_t : t_count_of gates ≡ 0
  pub short : length gates ≤ 45
  pub built : IsBuiltOf c.qubits (steps_of gates) (scaled c)
  pub channel : IsChannel c.qubits (matrix_of c.qubits gates).table (scaled c)

-- a signed permutation that is a circuit's channel is that of its rest, a circuit without T gates
abbrev pub PermutationsHaveCircuits : Type 0
PermutationsHaveCircuits = (c : ChannelGrid) → IsCliffordChannel c → IsCliffordCircuit c (rest_of c)

-- and the channel of each circuit without T gates is one, once it has the least exponent
abbrev pub CircuitsHavePermutations : Type 0
CircuitsHavePermutations = (c : ChannelGrid) → 0 < c.qubits → c.qubits ≤ 3 → (gates : List Gate) → IsCircuit c.qubits gates → t_count_of gates ≡ 0 → IsBuiltOf c.qubits (steps_of gates) (scaled c) → IsReduced c → IsSignedPermutation c
