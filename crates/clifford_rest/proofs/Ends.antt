-- One qubit's sweep ends at X and Z, by computing it on all pairs of Paulis: those that commute with X and Z on the lower
-- qubits and anticommute with each other, with each of the four signs.
use Rattle.std.proofs.Common.{ℕ, ◌+◌, ◌*◌, ◌^◌, Bool, true, false, not, ◌&&◌, ◌||◌, eqb, ltb, leb, T as Holds, List, [], ◌∷◌, length}
use Rattle.pauli_basis.specs.Products.{Signed, clashes, commute, turns}
use Rattle.channel_rep.specs.Gates.{image, positive}
use Rattle.channel_rep.specs.declared.gate.ChannelGate.{ChannelGate}
use Rattle.channel_rep.specs.declared.gate.ChannelGate.TheVariants.{H, S, Sdg, Cx}
use Rattle.pauli_basis.proofs.Small.{all}
use Rattle.channel_rep.specs.Conjugations.{conjugated_by}
use Rattle.clifford_rest.specs.Sweep.{qubit_gates}

-- a code with a sign
abbrev pub with_sign : ℕ → Bool → Signed
with_sign p negative = record { code = p; is_negative = negative }

-- h, sdg and cx on n qubits
abbrev pub fits : ℕ → ChannelGate → Bool
fits n (H q) = ltb q n
fits n (S q) = false
fits n (Sdg q) = ltb q n
fits n (Cx control target) = ltb control n && (ltb target n && not (eqb control target))

-- the same of a list
abbrev pub all_fit : ℕ → List ChannelGate → Bool
all_fit n [] = true
all_fit n (g ∷ gates) = fits n g && all_fit n gates

-- this code without a sign
abbrev pub is_positive : Signed → ℕ → Bool
is_positive s p = eqb s.code p && not s.is_negative

-- commutes with X and Z on each qubit below q
abbrev pub is_free : ℕ → ℕ → ℕ → Bool
is_free n q p = all q (λ j. commute n p (4 ^ j) && commute n p (3 * 4 ^ j))

-- X and Z on each qubit below q stay
abbrev pub keeps_lower : ℕ → ℕ → List ChannelGate → Bool
keeps_lower n q gates = all q (λ j. is_positive (conjugated_by n gates (positive (4 ^ j))) (4 ^ j) && is_positive (conjugated_by n gates (positive (3 * 4 ^ j))) (3 * 4 ^ j))

-- the sweep of q ends at X and Z on q, with gates that fit, of which there are few
abbrev pub ends : ℕ → ℕ → ℕ → Signed → Signed → Bool
ends n q most a b =
    let gates = qubit_gates n q a b in
    is_positive (conjugated_by n gates a) (4 ^ q) && (is_positive (conjugated_by n gates b) (3 * 4 ^ q) && (keeps_lower n q gates && (all_fit n gates && leb (length gates) most)))

-- for each of the four signs
abbrev pub ends_with_signs : ℕ → ℕ → ℕ → ℕ → ℕ → Bool
ends_with_signs n q most a b =
    ends n q most (with_sign a false) (with_sign b false) && (ends n q most (with_sign a false) (with_sign b true)
    && (ends n q most (with_sign a true) (with_sign b false) && ends n q most (with_sign a true) (with_sign b true)))

-- for a pair of codes that the sweep may meet
abbrev pub ends_at : ℕ → ℕ → ℕ → ℕ → ℕ → Bool
ends_at n q most a b = not (is_free n q b) || (commute n a b || ends_with_signs n q most a b)

-- for one code and every other
abbrev pub ends_from : ℕ → ℕ → ℕ → ℕ → Bool
ends_from n q most a = not (is_free n q a) || all (4 ^ n) (ends_at n q most a)

-- for all pairs
abbrev pub ends_all : ℕ → ℕ → ℕ → Bool
ends_all n q most = all (4 ^ n) (ends_from n q most)

-- one qubit
pub ends_1_0 : Holds (ends_all 1 0 11)
unfolding image turns clashes commute
ends_1_0 = tt

-- the lower of two qubits
pub ends_2_0 : Holds (ends_all 2 0 15)
unfolding image turns clashes commute
ends_2_0 = tt

-- the higher
pub ends_2_1 : Holds (ends_all 2 1 11)
unfolding image turns clashes commute
ends_2_1 = tt

-- the middle one of three qubits
pub ends_3_1 : Holds (ends_all 3 1 15)
unfolding image turns clashes commute
ends_3_1 = tt

-- the highest of three
pub ends_3_2 : Holds (ends_all 3 2 11)
unfolding image turns clashes commute
ends_3_2 = tt

-- the codes from 16·k on, sixteen of them
abbrev pub ends_part : ℕ → Bool
ends_part k = all 16 (λ i. ends_from 3 0 19 (16 * k + i))

-- the lowest of three qubits, a quarter of the codes at a time
pub part_0 : Holds (ends_part 0)
unfolding image turns clashes commute
part_0 = tt

pub part_1 : Holds (ends_part 1)
unfolding image turns clashes commute
part_1 = tt

pub part_2 : Holds (ends_part 2)
unfolding image turns clashes commute
part_2 = tt

pub part_3 : Holds (ends_part 3)
unfolding image turns clashes commute
part_3 = tt
