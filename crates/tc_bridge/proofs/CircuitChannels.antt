-- Lemmas for the crates above: each gate's step has its channel, and so each circuit has the channel that its steps build.
use Rattle.std.proofs.Common.{◌≡◌, ◌≢◌, ℕ, suc, ◌*◌, ◌^◌, ◌<◌, ◌≤◌, List, [], ◌∷◌, Bool, true, false, ◌&&◌, T as Holds, ap, ◌∙◌, arith, pow-suc}
use Rattle.std.proofs.Math.Nat.{pow-le-pow_right, one-le-pow}
use Rattle.std.specs.List.{AllByRecursion}
use Rattle.ring_laws.specs.Ring.{power}
use Rattle.ring_laws.specs.Matrix.{product, identity, kronecker}
use Rattle.ring_laws.specs.Cyclotomic.{cyclotomics, integer, plus, times, negative, ω, root2}
use Rattle.ring_laws.proofs.Ring.{power-zero}
use Rattle.tc_bridge.proofs.Matrices.{Alike, ◌⊙◌, alike-sym, multiple, multiple-cong, multiple_comm, multiple-factor, multiple-one, multiple-product, product-multiple, combination-weights, combination-multiple, combination-identity, product-left, product-right, one-product, product-one}
use Rattle.ring_laws.proofs.Cyclotomic.{cyclotomics_laws as laws}
use Rattle.tc_ring.specs.Surds.{surds, embed}
use Rattle.tc_circuit.specs.Bits.{has_bit}
use Rattle.tc_circuit.specs.Gate.{Table, gate_table, gate_exponent, diagonal_entry}
use Rattle.tc_circuit.specs.Gate as circuit
use Rattle.tc_circuit.specs.Model.{ScaledMatrix, after, matrix_of, IsCircuit}
use Rattle.tc_circuit.specs.declared.circuit.Gate.{Gate}
use Rattle.tc_circuit.specs.declared.circuit.Gate.TheVariants.{H, S, Sdg, T, Tdg, Cx}
use Rattle.pauli_basis.proofs.Small.{all, all_at, all_at2, and_left, and_right}
use Rattle.ring_laws.proofs.Sizes.{sizes}
use Rattle.channel_rep.specs.declared.gate.ChannelGate.{ChannelGate}
use Rattle.channel_rep.specs.Gates.{GateFits, image}
use Rattle.channel_rep.specs.Tables as channel
use Rattle.channel_rep.specs.Tables.{ScaledTable, IsStep, step_table, step_exponent, stepped, built_on, built, rotation_table, IsCircuitChannel}
use Rattle.tc_bridge.specs.Pauli.{imaginary, letter_matrix, pauli_matrix, sign}
use Rattle.tc_bridge.specs.Rotation.{axis}
use Rattle.tc_bridge.specs.Channel.{IsChannel}
use Rattle.tc_bridge.specs.Steps.{z_on, step_of, steps_of}
use Rattle.tc_bridge.specs.Block.{as_gate}
use Rattle.tc_bridge.proofs.Decide.{same_number, number_equal}
use Rattle.tc_bridge.proofs.Embeddings.{embed-identity, embed-signed}
use Rattle.tc_bridge.proofs.Channels.{channel_from, channel_product}
use Rattle.tc_bridge.proofs.Powers.{cancel_multiple}
use Rattle.tc_bridge.proofs.OneChannel.{divided_channel}
use Rattle.tc_bridge.proofs.Rotations.{turned_axis, rotation_channel}
use Rattle.tc_bridge.proofs.GateTerms.{gate_roots, gate_sum, image-lt, terms_conjugate}

-- ---- Clifford gates
module _ (n : ℕ) (some : 0 < n) (few : n ≤ 3) (g : ChannelGate) (fits : GateFits n g) where
  -- g·Q is its image times g
  pub gate_conjugates : (q : ℕ) → q < 4 ^ n → let s = image n g q in
      Alike cyclotomics (2 ^ n) (product cyclotomics (2 ^ n) (gate_table (as_gate g)) (pauli_matrix n q)) (multiple cyclotomics (sign s.is_negative) (product cyclotomics (2 ^ n) (pauli_matrix n s.code) (gate_table (as_gate g))))
  gate_conjugates q l =
      let s = image n g q in
      let sum = gate_sum n some few g fits in
      cancel_multiple (gate_roots g) _ _ (
      alike-sym (multiple-product laws _ _ _) ⊙ product-right laws sum _
      ⊙ terms_conjugate n some few g fits q l
      ⊙ multiple-cong laws _ (product-left laws _ (alike-sym sum) ⊙ product-multiple laws _ _ _) ⊙ multiple_comm laws _ _ _)

  -- an entry of the gate's table, among the numbers of Z[ω]
  entry : (k q : ℕ) → embed (channel.gate_table n g k q) ≡ times (sign (image n g q).is_negative) (identity cyclotomics k (image n g q).code)
  unfolding channel.gate_table
  entry k q = let s = image n g q in embed-signed s.is_negative (identity surds k s.code) ∙ ap (times (sign s.is_negative)) (embed-identity k s.code)

  -- the channel of a Clifford gate
  clifford_channel : IsChannel n (gate_table (as_gate g)) (record { table = channel.gate_table n g; exponent = 0 })
  clifford_channel = channel_from n _ _ (λ q l.
      multiple-factor laws (power-zero laws root2) _ ⊙ multiple-one laws _
      ⊙ gate_conjugates q l
      ⊙ multiple-cong laws _ (alike-sym (combination-identity laws (4 ^ n) _ _ (image-lt n some few g fits q l)))
      ⊙ alike-sym (combination-weights laws (4 ^ n) _ _ _ (λ k lk. entry k q) ⊙ combination-multiple laws (4 ^ n) _ _ _))

-- ---- t and tdg: twice the gate is 2·R(Z), or twice its inverse
abbrev is_axis_at : ℕ → Bool → Gate → ℕ → ℕ → ℕ → Bool
is_axis_at n inverse g q r c = same_number (times (power cyclotomics root2 2) (gate_table g r c)) (turned_axis n inverse (z_on q) r c)

-- for t and for tdg
abbrev is_axis : ℕ → ℕ → Bool
is_axis n q = all (2 ^ n) (λ r. all (2 ^ n) (is_axis_at n false (T q) q r)) && all (2 ^ n) (λ r. all (2 ^ n) (is_axis_at n true (Tdg q) q r))

-- computed on one, two and three qubits
axes_1 : Holds (all 1 (is_axis 1))
unfolding kronecker identity integer plus times negative power ω root2 imaginary letter_matrix pauli_matrix axis has_bit diagonal_entry
axes_1 = tt

axes_2 : Holds (all 2 (is_axis 2))
unfolding kronecker identity integer plus times negative power ω root2 imaginary letter_matrix pauli_matrix axis has_bit diagonal_entry
axes_2 = tt

axes_3 : Holds (all 3 (is_axis 3))
unfolding kronecker identity integer plus times negative power ω root2 imaginary letter_matrix pauli_matrix axis has_bit diagonal_entry
axes_3 = tt

-- Z on a qubit is a Pauli on n qubits, and not the identity
pub z_on-lt : (n q : ℕ) → q < n → z_on q < 4 ^ n
z_on-lt n q l =
    let a : 4 ^ suc q ≡ 4 ^ q * 4 = pow-suc 4 q in
    let b : 4 ^ suc q ≤ 4 ^ n = pow-le-pow_right (omega arith) l in
    let c : 0 < 4 ^ q = one-le-pow q 4 (omega arith) in
    omega arith

pub z_on-nonzero : (q : ℕ) → z_on q ≢ 0
z_on-nonzero q e = let some : 0 < 4 ^ q = one-le-pow q 4 (omega arith) in omega arith

module _ (n : ℕ) (some : 0 < n) (few : n ≤ 3) (q : ℕ) (l : q < n) where
  -- the computed facts at one qubit
  axes : Holds (is_axis n q)
  axes = all_at n (is_axis n) (sizes (λ n. Holds (all n (is_axis n))) axes_1 axes_2 axes_3 n some few) q l

  -- 2·t is 2·R(Z)
  pub t_axis : Alike cyclotomics (2 ^ n) (multiple cyclotomics (power cyclotomics root2 2) (gate_table (T q))) (turned_axis n false (z_on q))
  unfolding multiple
  t_axis = record { at = λ r c lr lc. number_equal _ _ (all_at2 (2 ^ n) (2 ^ n) (is_axis_at n false (T q) q) (and_left (all (2 ^ n) (λ r. all (2 ^ n) (is_axis_at n false (T q) q r))) _ axes) r c lr lc) }

  -- 2·tdg is twice its inverse
  pub tdg_axis : Alike cyclotomics (2 ^ n) (multiple cyclotomics (power cyclotomics root2 2) (gate_table (Tdg q))) (turned_axis n true (z_on q))
  unfolding multiple
  tdg_axis = record { at = λ r c lr lc. number_equal _ _ (all_at2 (2 ^ n) (2 ^ n) (is_axis_at n true (Tdg q) q) (and_right (all (2 ^ n) (λ r. all (2 ^ n) (is_axis_at n false (T q) q r))) _ axes) r c lr lc) }

-- ---- steps
pub step_fits : (n : ℕ) (g : Gate) → circuit.Fits n g → IsStep n (step_of g)
step_fits n (H q) l = l
step_fits n (S q) l = l
step_fits n (Sdg q) l = l
step_fits n (T q) l = (z_on-lt n q l, z_on-nonzero q)
step_fits n (Tdg q) l = (z_on-lt n q l, z_on-nonzero q)
step_fits n (Cx c t) l = l

-- each gate's matrix has the table of its step as its channel
pub step_channel : (n : ℕ) → 0 < n → n ≤ 3 → (g : Gate) → circuit.Fits n g → IsChannel n (gate_table g) (record { table = step_table n (step_of g); exponent = step_exponent (step_of g) })
step_channel n some few (H q) l = clifford_channel n some few (ChannelGate.H q) l
step_channel n some few (S q) l = clifford_channel n some few (ChannelGate.S q) l
step_channel n some few (Sdg q) l = clifford_channel n some few (ChannelGate.Sdg q) l
step_channel n some few (Cx c t) l = clifford_channel n some few (ChannelGate.Cx c t) l
step_channel n some few (T q) l = divided_channel n 2 _ _ _ (t_axis n some few q l) (rotation_channel n false (z_on q) (z_on-lt n q l))
step_channel n some few (Tdg q) l = divided_channel n 2 _ _ _ (tdg_axis n some few q l) (rotation_channel n true (z_on q) (z_on-lt n q l))

-- ---- circuits
identity_channel : (n : ℕ) → IsChannel n (identity cyclotomics) (built n [])
identity_channel n = channel_from n _ _ (λ q l.
    multiple-factor laws (power-zero laws root2) _ ⊙ multiple-one laws _ ⊙ one-product laws (pauli_matrix n q)
    ⊙ alike-sym (combination-weights laws (4 ^ n) _ _ _ (λ k lk. embed-identity k q) ⊙ combination-identity laws (4 ^ n) q _ l ⊙ product-one laws (pauli_matrix n q)))

-- gates behind a matrix that has a channel
channel_after : (n : ℕ) → 0 < n → n ≤ 3 → (gates : List Gate) (m : ScaledMatrix) (c : ScaledTable) → IsCircuit n gates → IsChannel n m.table c → IsChannel n (after n m gates).table (built_on n c (steps_of gates))
channel_after n some few [] m c fits h = h
channel_after n some few (g ∷ gates) m c fits h =
    channel_after n some few gates _ (stepped n (step_of g) c) fits.1 (channel_product n (gate_table g) m.table _ c (step_channel n some few g fits.0) h)

-- a circuit's matrix has the table of its steps as its channel
pub circuit_channel : (n : ℕ) → 0 < n → n ≤ 3 → (gates : List Gate) → IsCircuit n gates → IsChannel n (matrix_of n gates).table (built n (steps_of gates))
circuit_channel n some few gates fits = channel_after n some few gates (matrix_of n []) (built n []) fits (identity_channel n)

-- the steps of a circuit are steps
pub steps_fit : (n : ℕ) (gates : List Gate) → IsCircuit n gates → AllByRecursion (IsStep n) (steps_of gates)
steps_fit n [] fits = fits
steps_fit n (g ∷ gates) fits = (step_fits n g fits.0, steps_fit n gates fits.1)
