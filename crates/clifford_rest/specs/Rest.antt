-- The rest: the circuit without T gates that the sweep gives for a Clifford operator's channel.
use Rattle.std.specs.Prelude.{⊤, ℕ, zero, suc, ◌^◌, ◌==◌, ℤ, pos, negsuc, Bool, true, false, List, if◌then◌else◌}
use Rattle.tc_ring.specs.Surds.{Surd}
use Rattle.tc_circuit.specs.declared.circuit.Gate.{Gate}
use Rattle.pauli_basis.specs.Products.{Signed}
use Rattle.channel_rep.specs.declared.gate.ChannelGate.{ChannelGate}
use Rattle.channel_rep.specs.declared.gate.ChannelGate.TheVariants.{H, S, Sdg, Cx}
use Rattle.channel_rep.specs.Tables.{SurdTable}
use Rattle.channel_rep.specs.Cells.{ChannelGrid, table_of}
use Rattle.tc_bridge.specs.Block.{as_gates, undone}
use Rattle.clifford_rest.specs.Sweep.{undo_list}

abbrev pub is_zero : ℤ → Bool
is_zero (pos n) = n == 0
is_zero (negsuc n) = false

abbrev pub is_below_zero : ℤ → Bool
is_below_zero (pos n) = false
is_below_zero (negsuc n) = true

-- the last of the first `size` places at which the number, a + b√2, has a other than 0
unfoldable pub place_of : ℕ → (ℕ → Surd) → ℕ
place_of zero f = 0
place_of (suc size) f = if is_zero (f size).a then place_of size f else size

-- what a signed permutation makes of a code: the row of the column's one entry, and whether this is −1
abbrev pub sent_to : ℕ → SurdTable → ℕ → Signed
sent_to n m column =
    let row = place_of (4 ^ n) (λ k. m k column) in
    record { code = row; is_negative = is_below_zero (m row column).a }

-- the gates that the sweep undoes are h, sdg and cx
abbrev pub IsUndoGate : ChannelGate → Type 0
IsUndoGate (H q) = ⊤
IsUndoGate (S q) = ⊥
IsUndoGate (Sdg q) = ⊤
IsUndoGate (Cx control target) = ⊤

-- the gates of a rest are h, s and cx
abbrev pub IsRestGate : Gate → Type 0
IsRestGate (Gate.H q) = ⊤
IsRestGate (Gate.S q) = ⊤
IsRestGate (Gate.Sdg q) = ⊥
IsRestGate (Gate.T q) = ⊥
IsRestGate (Gate.Tdg q) = ⊥
IsRestGate (Gate.Cx control target) = ⊤

-- the gates that undo a Clifford operator, from its channel
abbrev pub undo_gates : ChannelGrid → List ChannelGate
undo_gates c = undo_list c.qubits (sent_to c.qubits (table_of c)) c.qubits

-- the inverses of these gates, in reverse order
abbrev pub rest_of : ChannelGrid → List Gate
rest_of c = as_gates (undone (undo_gates c))
