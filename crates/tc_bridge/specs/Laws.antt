-- What the laws of this crate say.
use Rattle.std.specs.Prelude.{◌≡◌, ◌↔◌, ℕ, ◌+◌, ◌^◌, ◌<◌, ◌≤◌, ◌≢◌, false, not, List, length}
use Rattle.ring_laws.specs.Ring.{power}
use Rattle.ring_laws.specs.Matrix.{sum, product, Agree}
use Rattle.ring_laws.specs.Cyclotomic.{Zω, cyclotomics, times, negative, conjugate, ω, root2}
use Rattle.tc_ring.specs.Surds.{surds, embed}
use Rattle.tc_circuit.specs.Gate.{Table}
use Rattle.tc_circuit.specs.Model.{ScaledMatrix, matrix_of, IsCircuit, SameUpTo, Same, t_count_of}
use Rattle.tc_circuit.specs.declared.circuit.Gate.{Gate}
use Rattle.pauli_basis.specs.Products.{product_code, turns, commute, anti_sign}
use Rattle.channel_rep.specs.Products.{table_of_step}
use Rattle.channel_rep.specs.Tables.{ScaledTable, by_rotation, SameTable, built, IsBuiltOf, IsCircuitChannel}
use Rattle.channel_rep.specs.Words.{IsWord}
use Rattle.tc_bridge.specs.Pauli.{imaginary, pauli_matrix, sign}
use Rattle.tc_bridge.specs.Channel.{IsChannel}
use Rattle.tc_bridge.specs.Steps.{steps_of}
use Rattle.tc_bridge.specs.Rotation.{rotation, word_matrix, scaled_product, AreEqual}

-- ---- Pauli operators: the rules of `pauli_basis` on codes are those of the matrices
-- P·Q = i^t·R
abbrev pub PaulisMultiply : Type 0
PaulisMultiply = (n p q : ℕ) → Agree cyclotomics (2 ^ n)
    (product cyclotomics (2 ^ n) (pauli_matrix n p) (pauli_matrix n q))
    (λ row column. times (power cyclotomics imaginary (turns n p q)) (pauli_matrix n (product_code p q) row column))

-- P·Q = Q·P where they commute, and else P·Q = −Q·P
abbrev pub PaulisSwap : Type 0
PaulisSwap = (n p q : ℕ) → Agree cyclotomics (2 ^ n)
    (product cyclotomics (2 ^ n) (pauli_matrix n p) (pauli_matrix n q))
    (λ row column. times (sign (not (commute n p q))) (product cyclotomics (2 ^ n) (pauli_matrix n q) (pauli_matrix n p) row column))

-- −i·P·Q = σ·S where they anticommute
abbrev pub AntiImages : Type 0
AntiImages = (n p q : ℕ) → commute n p q ≡ false → Agree cyclotomics (2 ^ n)
    (λ row column. times (negative imaginary) (product cyclotomics (2 ^ n) (pauli_matrix n p) (pauli_matrix n q) row column))
    (λ row column. times (sign (anti_sign n p q)) (pauli_matrix n (product_code p q) row column))

-- ---- channels
-- a circuit on one to three qubits has the channel that its steps build
abbrev pub CircuitsHaveChannels : Type 0
CircuitsHaveChannels = (n : ℕ) → 0 < n → n ≤ 3 → (gates : List Gate) → IsCircuit n gates → IsChannel n (matrix_of n gates).table (built n (steps_of gates))

-- and no other: all its channels have the same entries
abbrev pub ChannelsAreUnique : Type 0
ChannelsAreUnique = (n : ℕ) → 0 < n → n ≤ 3 → (gates : List Gate) → IsCircuit n gates → (c d : ScaledTable)
    → IsChannel n (matrix_of n gates).table c → IsChannel n (matrix_of n gates).table d → SameTable n c d

-- a table that the steps of a circuit build is a circuit's channel
abbrev pub BuiltTablesAreChannels : Type 0
BuiltTablesAreChannels = (n : ℕ) (c : List Gate) → IsCircuit n c → (m : ScaledTable) → IsBuiltOf n (steps_of c) m → IsCircuitChannel n m

-- the channel of R(P) is the table of the rotation by P
abbrev pub RotationsHaveChannels : Type 0
RotationsHaveChannels = (n p : ℕ) → p < 4 ^ n → IsChannel n (rotation n p).table (table_of_step n (by_rotation p))

-- the channel of V·U is the product of their channels
abbrev pub ChannelsMultiply : Type 0
ChannelsMultiply = (n : ℕ) (v u : Table) (d c : ScaledTable) → IsChannel n v d → IsChannel n u c
    → IsChannel n (product cyclotomics (2 ^ n) v u) (record { table = product surds (4 ^ n) d.table c.table; exponent = d.exponent + c.exponent })

-- two circuits have one channel exactly where they are the same up to global phase
abbrev pub OneChannelWhereSame : Type 0
OneChannelWhereSame = (n : ℕ) → 0 < n → n ≤ 3 → (a b : List Gate) → IsCircuit n a → IsCircuit n b → (c d : ScaledTable)
    → IsChannel n (matrix_of n a).table c → IsChannel n (matrix_of n b).table d → SameTable n c d ↔ Same n a b

-- the sum of the diagonal of P·U·Q·U†
abbrev pub conjugated_trace : ℕ → Table → ℕ → ℕ → Zω
conjugated_trace n u p q = sum cyclotomics (2 ^ n) (λ k.
    product cyclotomics (2 ^ n) (pauli_matrix n p) (product cyclotomics (2 ^ n) (product cyclotomics (2 ^ n) u (pauli_matrix n q)) (λ row column. conjugate (u column row))) k k)

-- C(P, Q) = tr(P·U·Q·U†)/2^n, with the powers of √2 of the table and of the circuit's matrix, and 2^n = √2^(n + n)
abbrev pub EntriesAreTraces : Type 0
EntriesAreTraces = (n : ℕ) → 0 < n → n ≤ 3 → (gates : List Gate) → IsCircuit n gates → (c : ScaledTable) → IsChannel n (matrix_of n gates).table c → (p q : ℕ) → p < 4 ^ n → q < 4 ^ n
    → let e = (matrix_of n gates).exponent in
    times (power cyclotomics root2 ((n + n) + (e + e))) (embed (c.table p q)) ≡ times (power cyclotomics root2 c.exponent) (conjugated_trace n (matrix_of n gates).table p q)

-- ---- scalars
-- x/√2^k with |x| = √2^k is one of the eight powers of ω
abbrev pub UnitScalarsArePowers : Type 0
UnitScalarsArePowers = (k : ℕ) (x : Zω) → times x (conjugate x) ≡ power cyclotomics root2 (k + k) → (j : ℕ) × (j < 8) × (x ≡ times (power cyclotomics ω j) (power cyclotomics root2 k))

-- ---- words
-- a circuit's matrix is R(w)·D up to a power of ω, for a word w of as many letters as it has T gates and a circuit D without any
pub record IsWordThenClifford (n : ℕ) (gates : List Gate) : Type 0 where
  pub word : List ℕ
  pub letters : IsWord n word
  pub long : length word ≡ t_count_of gates
  pub clifford : List Gate
  pub fits : IsCircuit n clifford
  pub no_t : t_count_of clifford ≡ 0
  pub phase : ℕ
  pub low : phase < 8
  pub same : SameUpTo (2 ^ n) phase (matrix_of n gates) (scaled_product n (word_matrix n word) (matrix_of n clifford))

-- a circuit whose matrix is R(w)·D, with a T gate for each letter of w
pub record IsCircuitOfWord (n : ℕ) (word : List ℕ) (clifford gates : List Gate) : Type 0 where
  pub fits : IsCircuit n gates
  pub t_gates : t_count_of gates ≡ length word
  pub equal : AreEqual (2 ^ n) (matrix_of n gates) (scaled_product n (word_matrix n word) (matrix_of n clifford))

-- each circuit is a word behind a circuit without T gates
abbrev pub CircuitsAreWords : Type 0
CircuitsAreWords = (n : ℕ) → 0 < n → n ≤ 3 → (gates : List Gate) → IsCircuit n gates → IsWordThenClifford n gates

-- each word behind a circuit without T gates has a circuit with a T gate for each letter
abbrev pub WordsHaveCircuits : Type 0
WordsHaveCircuits = (n : ℕ) → 0 < n → n ≤ 3 → (word : List ℕ) → IsWord n word → (clifford : List Gate) → IsCircuit n clifford → t_count_of clifford ≡ 0
    → (gates : List Gate) × IsCircuitOfWord n word clifford gates

-- ---- squares
-- a circuit without T gates that has this matrix
pub record IsCliffordCircuitOf (n : ℕ) (m : ScaledMatrix) (gates : List Gate) : Type 0 where
  pub fits : IsCircuit n gates
  pub no_t : t_count_of gates ≡ 0
  pub equal : AreEqual (2 ^ n) (matrix_of n gates) m

-- R(P)² has one
abbrev pub SquaresAreCliffords : Type 0
SquaresAreCliffords = (n : ℕ) → 0 < n → n ≤ 3 → (p : ℕ) → p < 4 ^ n → p ≢ 0 → (gates : List Gate) × IsCliffordCircuitOf n (scaled_product n (rotation n p) (rotation n p)) gates
