-- The gates h, s, sdg, t, tdg and cx, and their matrices on n qubits.
-- Source: OpenQASM 2.0 (Cross, Bishop, Smolin, Gambetta 2017) with qelib1.inc, up to global phase.
use Rattle.std.specs.Prelude.{ℕ, Bool, true, false, if◌then◌else◌, ◌==◌, ◌<◌, ◌≢◌}
use Rattle.ring_laws.specs.Ring.{power}
use Rattle.ring_laws.specs.Cyclotomic.{Zω, cyclotomics, negative, zero_number, one_number, ω}
use Rattle.tc_circuit.specs.Bits.{has_bit, flipped, crossed}
use Rattle.tc_circuit.specs.declared.circuit.Gate.{Gate}
use Rattle.tc_circuit.specs.declared.circuit.Gate.TheVariants.{H, S, Sdg, T, Tdg, Cx}

-- a matrix over Z[ω]: an entry for each row and column; those past the size say nothing
abbrev pub Table : Type 0
Table = ℕ → ℕ → Zω

-- √2 times h on qubit q: where row and column are one, 1 or −1 by bit q; where they differ in bit q alone, 1; else 0
unfoldable pub h_entry : ℕ → Table
h_entry q row column =
    if row == column
    then (if has_bit q row then negative one_number else one_number)
    else (if row == flipped q column then one_number else zero_number)

-- the diagonal gate with ω^turns where bit q is 1, and 1 where it is 0
unfoldable pub diagonal_entry : ℕ → ℕ → Table
diagonal_entry q turns row column =
    if row == column
    then (if has_bit q row then power cyclotomics ω turns else one_number)
    else zero_number

-- cx: 1 where the row is the column with the target flipped by the control, else 0
unfoldable pub cx_entry : ℕ → ℕ → Table
cx_entry control target row column = if row == crossed control target column then one_number else zero_number

-- a gate's matrix, times √2 for h
abbrev pub gate_table : Gate → Table
gate_table (H q) = h_entry q
gate_table (S q) = diagonal_entry q 2
gate_table (Sdg q) = diagonal_entry q 6
gate_table (T q) = diagonal_entry q 1
gate_table (Tdg q) = diagonal_entry q 7
gate_table (Cx control target) = cx_entry control target

-- how often its entries are to be divided by √2
abbrev pub gate_exponent : Gate → ℕ
gate_exponent (H q) = 1
gate_exponent (S q) = 0
gate_exponent (Sdg q) = 0
gate_exponent (T q) = 0
gate_exponent (Tdg q) = 0
gate_exponent (Cx control target) = 0

-- a gate of n qubits: its qubits are below n, and the two of a cx differ
abbrev pub Fits : ℕ → Gate → Type 0
Fits n (H q) = q < n
Fits n (S q) = q < n
Fits n (Sdg q) = q < n
Fits n (T q) = q < n
Fits n (Tdg q) = q < n
Fits n (Cx control target) = (control < n) × (target < n) × (control ≢ target)

-- a T gate is a t or a tdg
abbrev pub is_t : Gate → Bool
is_t (T q) = true
is_t (Tdg q) = true
is_t (H q) = false
is_t (S q) = false
is_t (Sdg q) = false
is_t (Cx control target) = false

abbrev pub is_h : Gate → Bool
is_h (H q) = true
is_h (S q) = false
is_h (Sdg q) = false
is_h (T q) = false
is_h (Tdg q) = false
is_h (Cx control target) = false
