-- What a `Circuit` shows: its qubits and its gates, in the order in which they are applied.
use Rattle.std.specs.Prelude.{ℕ, ◌<◌, ◌≤◌, List}
use Rattle.tc_circuit.specs.declared.circuit.Gate.{Gate}
use Rattle.tc_circuit.specs.Model.{IsCircuit}

pub record Gates : Type 0 where
  pub qubits : ℕ
  pub gates : List Gate

-- one to three qubits, and gates of these qubits
pub record IsSmallCircuit (c : Gates) : Type 0 where
  pub some : 0 < c.qubits
  pub few : c.qubits ≤ 3
  pub fit : IsCircuit c.qubits c.gates
