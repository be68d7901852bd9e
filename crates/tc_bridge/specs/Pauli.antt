-- The matrices of the Pauli operators, over Z[ω].
-- Source: Nielsen and Chuang, Quantum Computation and Quantum Information, section 2.1.3.
use Rattle.std.specs.Prelude.{ℕ, Bool, zero, suc, ◌/◌, ◌%◌, ◌==◌, if◌then◌else◌}
use Rattle.ring_laws.specs.Ring.{power}
use Rattle.ring_laws.specs.Matrix.{identity, kronecker}
use Rattle.ring_laws.specs.Cyclotomic.{Zω, cyclotomics, negative, zero_number, one_number, ω}
use Rattle.tc_circuit.specs.Gate.{Table}

-- i = ω²
unfoldable pub imaginary : Zω
imaginary = power cyclotomics ω 2

-- the matrix of a letter at rows and columns 0 and 1: I, X = [[0, 1], [1, 0]], Y = [[0, −i], [i, 0]], Z = [[1, 0], [0, −1]]
unfoldable pub letter_matrix : ℕ → Table
letter_matrix zero row column = identity cyclotomics row column
letter_matrix (suc zero) row column = if row == column then zero_number else one_number
letter_matrix (suc (suc zero)) row column = if row == column then zero_number else (if row == 0 then negative imaginary else imaginary)
letter_matrix (suc (suc (suc _))) row column = if row == column then (if row == 0 then one_number else negative one_number) else zero_number

-- the matrix of a code on n qubits: the Kronecker product of its letters' matrices, that of qubit n − 1 leftmost
unfoldable pub pauli_matrix : ℕ → ℕ → Table
pauli_matrix zero code row column = one_number
pauli_matrix (suc n) code row column = kronecker cyclotomics 2 (pauli_matrix n (code / 4)) (letter_matrix (code % 4)) row column

-- the number of a sign: −1 where it is negative, else 1
unfoldable pub sign : Bool → Zω
sign negated = if negated then negative one_number else one_number
