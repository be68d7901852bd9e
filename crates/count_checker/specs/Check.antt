-- When two circuits are the same, and when there are too many h gates to compare them.
-- Source: Nielsen and Chuang, section 2.2.7, on global phases. The limit is this project's own.
use Rattle.std.specs.Prelude.{◌≡◌, ◌⊎◌, ℕ, ◌<◌, ◌≤◌}
use Rattle.ring_laws.specs.Ring.{power}
use Rattle.ring_laws.specs.Cyclotomic.{cyclotomics, times, ω, root2}
use Rattle.tc_circuit.specs.Circuit.{Gates}
use Rattle.tc_circuit.specs.Model.{ScaledMatrix, Same, h_count_of}
use Rattle.count_checker.specs.declared.fault.CheckFault.{CheckFault}
use Rattle.count_checker.specs.declared.fault.CheckFault.TheVariants.{TooManyH, Memory}

-- the most h gates of a circuit that is compared
abbrev pub most_h_gates : ℕ
most_h_gates = 120

-- both circuits are on one number of qubits, and have one matrix up to one of the eight phases
abbrev pub AreSame : Gates → Gates → Type 0
AreSame a b = (a.qubits ≡ b.qubits) × Same a.qubits a.gates b.gates

-- a circuit has too many h gates, the count is its number of them, and it is the first such circuit of the two
abbrev pub IsTooManyH : Gates → Gates → ℕ → Type 0
IsTooManyH a b count =
    ((most_h_gates < h_count_of a.gates) × (count ≡ h_count_of a.gates))
    ⊎ ((h_count_of a.gates ≤ most_h_gates) × (most_h_gates < h_count_of b.gates) × (count ≡ h_count_of b.gates))

-- the fault is that of the circuits, or want of memory, of which nothing is said
abbrev pub IsFault : Gates → Gates → CheckFault → Type 0
IsFault a b (TooManyH count) = IsTooManyH a b count
IsFault a b Memory = Unit {0}

-- the entry of the first is ω^j times that of the second, both brought to one power of √2
abbrev pub SameEntry : ℕ → ScaledMatrix → ScaledMatrix → ℕ → ℕ → Type 0
SameEntry j a b row column =
    times (power cyclotomics root2 b.exponent) (a.table row column)
    ≡ times (power cyclotomics root2 a.exponent) (times (power cyclotomics ω j) (b.table row column))
