-- What a table says of a complex matrix: that it is its channel.
-- Source: Gosset, Kliuchnikov, Mosca and Russo, An algorithm for the T-count, 2014, section 2.3.
use Rattle.std.specs.Prelude.{ℕ, ◌^◌, ◌<◌}
use Rattle.ring_laws.specs.Ring.{power}
use Rattle.ring_laws.specs.Matrix.{sum, product, Agree}
use Rattle.ring_laws.specs.Cyclotomic.{cyclotomics, times, root2}
use Rattle.tc_ring.specs.Surds.{embed}
use Rattle.tc_circuit.specs.Gate.{Table}
use Rattle.channel_rep.specs.Tables.{ScaledTable}
use Rattle.tc_bridge.specs.Pauli.{pauli_matrix}

-- for each Pauli Q, U·Q is the sum over P of C(P, Q)·P·U. The power of √2 by which C's entries are divided stands on the
-- left; a number before U changes nothing. For a unitary U this is C(P, Q) = tr(P·U·Q·U†)/2^n
abbrev pub IsChannel : ℕ → Table → ScaledTable → Type 0
IsChannel n u c = (q : ℕ) → q < 4 ^ n → Agree cyclotomics (2 ^ n)
    (λ row column. times (power cyclotomics root2 c.exponent) (product cyclotomics (2 ^ n) u (pauli_matrix n q) row column))
    (λ row column. sum cyclotomics (4 ^ n) (λ p. times (embed (c.table p q)) (product cyclotomics (2 ^ n) (pauli_matrix n p) u row column)))
