-- Lemmas for the crates above: the rest of a signed permutation that is a circuit's channel has that channel.
use Rattle.std.proofs.Common.{◌≡◌, ℕ, ◌^◌, ◌<◌, ◌≤◌, false, true, List, [], ◌∷◌, length, ap, sym, ◌∙◌, subst, arith}
use Rattle.std.specs.List.{AllByRecursion}
use Rattle.ring_laws.specs.Matrix.{product, identity, Agree}
use Rattle.ring_laws.specs.Cyclotomic.{cyclotomics}
use Rattle.tc_ring.specs.Surds.{surds}
use Rattle.tc_circuit.specs.Gate.{Table, gate_table}
use Rattle.tc_circuit.specs.Model.{ScaledMatrix, after, matrix_of, IsCircuit, t_count_of}
use Rattle.ring_laws.proofs.Sizes.{sizes}
use Rattle.pauli_basis.specs.Products.{Signed}
use Rattle.channel_rep.specs.declared.gate.ChannelGate.{ChannelGate}
use Rattle.channel_rep.specs.declared.gate.ChannelGate.TheVariants.{H, S, Sdg, Cx}
use Rattle.channel_rep.specs.Cells.{ChannelGrid, table_of, scaled, IsSignedPermutation}
use Rattle.channel_rep.specs.Gates.{GateFits, positive}
use Rattle.channel_rep.specs.Tables.{ScaledTable, Step, by_gate, by_rotation, by_inverse_rotation, IsStep, step_table, step_exponent, stepped, built_on, built, IsBuiltOf, IsCircuitChannel}
use Rattle.tc_bridge.specs.Block.{as_gate, as_gates, inverse_gate, undone}
use Rattle.tc_bridge.specs.Channel.{IsChannel}
use Rattle.tc_bridge.specs.Steps.{steps_of}
use Rattle.tc_bridge.proofs.Channels.{channel_product, same_table_channel}
use Rattle.tc_bridge.proofs.CircuitChannels.{step_channel, circuit_channel}
use Rattle.tc_bridge.proofs.Conjugations.{all-append, as_gates-append, undone_fits, length-as_gates, length-undone}
use Rattle.tc_bridge.proofs.Counts.{clifford_count, clifford_circuit}
use Rattle.tc_bridge.proofs.Rotations.{turned_axis, rotation_channel}
use Rattle.tc_bridge.proofs.Unique.{unique}
use Rattle.tc_bridge.proofs.Unitary.{unitary_circuit}
use Rattle.clifford_rest.specs.Rest.{IsUndoGate, IsRestGate, sent_to, undo_gates, rest_of}
use Rattle.channel_rep.specs.Conjugations.{conjugated_by}
use Rattle.clifford_rest.proofs.Acts.{Acts, acts_circuit, acts_from_channel, channel_from_acts}
use Rattle.tc_bridge.proofs.Codes.{conjugated_by-undone}
use Rattle.clifford_rest.proofs.Fixed.{all_stay}
use Rattle.clifford_rest.proofs.Invertible.{IsInvertible, invertible_identity, invertible_gate, invertible_product, invertible_rotation}
use Rattle.clifford_rest.proofs.Permutations.{sent_entry}
use Rattle.tc_bridge.proofs.CliffordTables.{HasEntry, entry_gates, identity_from_entries}
use Rattle.clifford_rest.proofs.Undone.{TakesPaulis, Swept, swept, taken, most_below}

-- ---- the table of steps is the channel of a matrix
pub record Stands (n : ℕ) (c : ScaledTable) : Type 0 where
  pub matrix : Table
  pub invertible : IsInvertible n matrix
  pub channel : IsChannel n matrix c

module _ (n : ℕ) (some : 0 < n) (few : n ≤ 3) where
  -- a gate's table is that of the gate
  gate_stands : (g : ChannelGate) → GateFits n g → Stands n (record { table = step_table n (by_gate g); exponent = 0 })
  gate_stands (H q) fits = record { matrix = gate_table (as_gate (H q)); invertible = invertible_gate n some few (H q) fits; channel = step_channel n some few (as_gate (H q)) fits }
  gate_stands (S q) fits = record { matrix = gate_table (as_gate (S q)); invertible = invertible_gate n some few (S q) fits; channel = step_channel n some few (as_gate (S q)) fits }
  gate_stands (Sdg q) fits = record { matrix = gate_table (as_gate (Sdg q)); invertible = invertible_gate n some few (Sdg q) fits; channel = step_channel n some few (as_gate (Sdg q)) fits }
  gate_stands (Cx c t) fits = record { matrix = gate_table (as_gate (Cx c t)); invertible = invertible_gate n some few (Cx c t) fits; channel = step_channel n some few (as_gate (Cx c t)) fits }

  -- a rotation's table is that of twice the rotation
  step_stands : (s : Step) → IsStep n s → Stands n (record { table = step_table n s; exponent = step_exponent s })
  step_stands (by_gate g) fits = gate_stands g fits
  step_stands (by_rotation p) fits = record { matrix = turned_axis n false p; invertible = invertible_rotation n false p; channel = rotation_channel n false p fits.0 }
  step_stands (by_inverse_rotation p) fits = record { matrix = turned_axis n true p; invertible = invertible_rotation n true p; channel = rotation_channel n true p fits.0 }

  -- steps behind a table
  steps_stand : (steps : List Step) → AllByRecursion (IsStep n) steps → (c : ScaledTable) → Stands n c → Stands n (built_on n c steps)
  steps_stand [] fits c h = h
  steps_stand (s ∷ steps) fits c h =
      let g = step_stands s fits.0 in
      steps_stand steps fits.1 (stepped n s c) (record {
        matrix = product cyclotomics (2 ^ n) g.matrix h.matrix;
        invertible = invertible_product n g.matrix h.matrix g.invertible h.invertible;
        channel = channel_product n g.matrix h.matrix _ c g.channel h.channel;
      })

  -- steps by themselves
  built_stands : (steps : List Step) → AllByRecursion (IsStep n) steps → Stands n (built n steps)
  built_stands steps fits = steps_stand steps fits (built n []) (record { matrix = identity cyclotomics; invertible = invertible_identity n; channel = circuit_channel n some few [] tt })

  -- a circuit's channel is the channel of a matrix
  pub channel_stands : (c : ScaledTable) → IsCircuitChannel n c → Stands n c
  channel_stands c h =
      let g = built_stands h.0 h.1 in
      record { matrix = g.matrix; invertible = g.invertible; channel = same_table_channel n g.matrix (built n h.0) c h.2 g.channel }

-- at most 45 gates in all: 11 on one qubit
most_1 : most_below 1 1 ≤ 45
most_1 = omega arith

-- 11 and 15 on two qubits
most_2 : most_below 2 2 ≤ 45
most_2 = omega arith

-- 11, 15 and 19 on three
most_3 : most_below 3 3 ≤ 45
most_3 = omega arith

-- on any of these
most_all : (n : ℕ) → 0 < n → n ≤ 3 → most_below n n ≤ 45
most_all n some few = sizes (λ n. most_below n n ≤ 45) most_1 most_2 most_3 n some few

-- ---- the sweep of a channel
module _ (c : ChannelGrid) (some : 0 < c.qubits) (few : c.qubits ≤ 3) (permutation : IsSignedPermutation c) (channel : IsCircuitChannel c.qubits (scaled c)) where
  abbrev n : ℕ
  n = c.qubits

  -- what the channel makes of a code
  abbrev made : ℕ → Signed
  made = sent_to n (table_of c)

  -- what the sweep undoes
  abbrev gates : List ChannelGate
  gates = undo_gates c

  -- and what undoes that
  abbrev rest : List ChannelGate
  rest = undone gates

  -- the matrix of the channel
  stands : Stands n (scaled c)
  stands = channel_stands n some few (scaled c) channel

  abbrev matrix : ScaledMatrix
  matrix = record { table = stands.matrix; exponent = 0 }

  -- which conjugates each Pauli to its image
  takes : TakesPaulis n matrix made
  takes = record {
    invertible = stands.invertible;
    acts = λ p l. acts_from_channel n stands.matrix (scaled c) stands.channel permutation.exponent p l (made p) (sent_entry c permutation p l);
  }

  -- the sweep of all qubits
  whole : Swept n some few matrix made takes n
  whole = swept n some few matrix made takes n (omega arith)

  -- the gates fit
  pub undo_fits : AllByRecursion (GateFits n) gates
  undo_fits = whole.fits

  -- there are at most 45
  pub undo_short : length gates ≤ 45
  undo_short = let l = most_all n some few in omega (arith, whole.short, l)

  -- every Pauli's image goes back to the Pauli
  pub undo_ends : (p : ℕ) → p < 4 ^ n → conjugated_by n gates (made p) ≡ positive p
  undo_ends p l = all_stay n some few (after n matrix (as_gates gates)) (λ q. conjugated_by n gates (made q)) (taken n some few matrix made takes gates undo_fits) whole.x whole.z p l

  -- so the channel with these gates behind it is the identity
  pub undone_table : Agree surds (4 ^ n) (built_on n (scaled c) (steps_of (as_gates gates))).table (identity surds)
  undone_table = identity_from_entries n _ (λ q l.
      subst (HasEntry n (built_on n (scaled c) (steps_of (as_gates gates))) q) (undo_ends q l) (entry_gates n some few gates undo_fits (scaled c) q l (made q) (sent_entry c permutation q l)))

  -- ---- the rest
  rest_fits : AllByRecursion (GateFits n) rest
  rest_fits = undone_fits n gates undo_fits

  -- the rest makes of each Pauli what the channel does
  rest_makes : (p : ℕ) → p < 4 ^ n → conjugated_by n rest (positive p) ≡ made p
  rest_makes p l = ap (conjugated_by n rest) (sym (undo_ends p l)) ∙ conjugated_by-undone n some few gates undo_fits (made p) (sent_entry c permutation p l).below

  -- it is a circuit
  pub rest_circuit : IsCircuit n (rest_of c)
  rest_circuit = clifford_circuit n rest rest_fits

  -- without T gates
  pub rest_count : t_count_of (rest_of c) ≡ 0
  rest_count = clifford_count rest

  -- h, s and cx alone
  inverse_kind : (g : ChannelGate) → IsUndoGate g → IsRestGate (as_gate (inverse_gate g))
  inverse_kind (H q) h = tt
  inverse_kind (S q) h = absurd h
  inverse_kind (Sdg q) h = tt
  inverse_kind (Cx c t) h = tt

  -- the same of all gates
  inverse_kinds : (gates : List ChannelGate) → AllByRecursion IsUndoGate gates → AllByRecursion IsRestGate (as_gates (undone gates))
  inverse_kinds [] h = tt
  inverse_kinds (g ∷ gates) h =
      subst (AllByRecursion IsRestGate) (sym (as_gates-append (undone gates) (inverse_gate g ∷ []))) (all-append IsRestGate (as_gates (undone gates)) (as_gate (inverse_gate g) ∷ []) (inverse_kinds gates h.1) (inverse_kind g h.0, tt))

  -- so of the rest
  pub rest_kinds : AllByRecursion IsRestGate (rest_of c)
  rest_kinds = inverse_kinds gates whole.kinds

  -- it has at most 45 gates
  pub rest_short : length (rest_of c) ≤ 45
  rest_short = omega (arith, length-as_gates rest, length-undone gates, undo_short)

  -- the channel is that of the rest's matrix
  pub rest_channel : IsChannel n (matrix_of n (rest_of c)).table (scaled c)
  rest_channel = channel_from_acts n (matrix_of n (rest_of c)).table (scaled c) permutation.exponent made (λ q l. sent_entry c permutation q l) (λ q l.
      subst (Acts n (matrix_of n (rest_of c)).table q) (rest_makes q l) (acts_circuit n some few rest rest_fits q l))

  -- and the one that its steps build, since a circuit has one channel
  pub rest_built : IsBuiltOf n (steps_of (rest_of c)) (scaled c)
  rest_built = unique n (matrix_of n (rest_of c)).table (matrix_of n (rest_of c)).exponent (scaled c) (built n (steps_of (rest_of c)))
      (unitary_circuit n some few (rest_of c) rest_circuit) rest_channel (circuit_channel n some few (rest_of c) rest_circuit)
