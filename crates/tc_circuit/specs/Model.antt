-- A circuit's matrix, sameness up to global phase, and the least T-count.
-- Source: Nielsen and Chuang, Quantum Computation and Quantum Information, chapter 4; Gosset, Kliuchnikov, Mosca, Russo 2014.
use Rattle.std.specs.Prelude.{◌≡◌, ℕ, ◌+◌, ◌<◌, ◌≤◌, ◌^◌, List, [], ◌∷◌, count_by}
use Rattle.std.specs.List.{AllByRecursion}
use Rattle.ring_laws.specs.Ring.{power}
use Rattle.ring_laws.specs.Matrix.{product, identity, Agree}
use Rattle.ring_laws.specs.Cyclotomic.{cyclotomics, times, ω, root2}
use Rattle.tc_circuit.specs.Gate.{Table, gate_table, gate_exponent, Fits, is_t, is_h}
use Rattle.tc_circuit.specs.declared.circuit.Gate.{Gate}

-- a matrix whose entries are all divided by √2 to one power
pub record ScaledMatrix : Type 0 where
  pub table : Table
  pub exponent : ℕ

-- a matrix of n qubits, and then the gates: each gate's matrix times what came before it
abbrev pub after : ℕ → ScaledMatrix → List Gate → ScaledMatrix
after n m [] = m
after n m (g ∷ gates) = after n (record { table = product cyclotomics (2 ^ n) (gate_table g) m.table; exponent = gate_exponent g + m.exponent }) gates

-- the matrix of a circuit: the identity, and then its gates
abbrev pub matrix_of : ℕ → List Gate → ScaledMatrix
matrix_of n gates = after n (record { table = identity cyclotomics; exponent = 0 }) gates

-- a matrix with the exponent and the entries of a circuit's matrix
pub record IsMatrixOf (n : ℕ) (gates : List Gate) (m : ScaledMatrix) : Type 0 where
  pub exponent : m.exponent ≡ (matrix_of n gates).exponent
  pub table : Agree cyclotomics (2 ^ n) m.table (matrix_of n gates).table

-- a circuit on n qubits: any finite list of gates of n qubits
abbrev pub IsCircuit : ℕ → List Gate → Type 0
IsCircuit n gates = AllByRecursion (Fits n) gates

-- each entry of the first is ω^j times that of the second, both brought to one power of √2
abbrev pub SameUpTo : ℕ → ℕ → ScaledMatrix → ScaledMatrix → Type 0
SameUpTo size j a b = (row column : ℕ) → row < size → column < size →
    times (power cyclotomics root2 b.exponent) (a.table row column)
    ≡ times (power cyclotomics root2 a.exponent) (times (power cyclotomics ω j) (b.table row column))

-- two circuits of n qubits have one matrix up to one of the eight phases ω^j
abbrev pub Same : ℕ → List Gate → List Gate → Type 0
Same n c d = (j : ℕ) × (j < 8) × SameUpTo (2 ^ n) j (matrix_of n c) (matrix_of n d)

-- the T-count: how many gates are t or tdg
abbrev pub t_count_of : List Gate → ℕ
t_count_of gates = count_by is_t gates

abbrev pub h_count_of : List Gate → ℕ
h_count_of gates = count_by is_h gates

-- t is the least T-count: some circuit that is the same has t T gates, and none, of whatever length, has fewer
pub record IsLeastTCount (n : ℕ) (c : List Gate) (t : ℕ) : Type 0 where
  pub reached : (d : List Gate) × IsCircuit n d × Same n c d × (t_count_of d ≡ t)
  pub least : (d : List Gate) → IsCircuit n d → Same n c d → t ≤ t_count_of d
