-- Conjugation by a Clifford operator, which takes each Pauli to a Pauli with a sign.
-- Source: Gottesman, The Heisenberg representation of quantum computers, 1998.
use Rattle.std.specs.Prelude.{◌≡◌, ◌≢◌, ℕ, ◌/◌, ◌%◌, ◌^◌, ◌<◌, ◌≤◌, ◌==◌, List, [], ◌∷◌, slice_index}
use Rattle.std.specs.List.{AllByRecursion}
use Rattle.pauli_basis.specs.Products.{Signed}
use Rattle.channel_rep.specs.Gates.{GateFits, image, positive}
use Rattle.channel_rep.specs.Tables.{Step, by_gate, SurdTable, signed, turned_over}
use Rattle.channel_rep.specs.declared.gate.ChannelGate.{ChannelGate}

-- a Pauli with a sign, conjugated by one gate
abbrev pub conjugated : ℕ → ChannelGate → Signed → Signed
conjugated n g p = let s = image n g p.code in record { code = s.code; is_negative = turned_over p.is_negative s.is_negative }

-- by gates one after another
abbrev pub conjugated_by : ℕ → List ChannelGate → Signed → Signed
conjugated_by n [] p = p
conjugated_by n (g ∷ gates) p = conjugated_by n gates (conjugated n g p)

-- the steps of a list of gates
abbrev pub gate_steps : List ChannelGate → List Step
gate_steps [] = []
gate_steps (g ∷ gates) = by_gate g ∷ gate_steps gates

-- a Pauli with a sign, as a byte holds it: the code in the low six bits, and the sign in the next
abbrev pub pauli_in : ℕ → Signed
pauli_in byte = record { code = byte % 64; is_negative = byte / 64 % 2 == 1 }

-- what a `Conjugation` shows: its qubits, and a byte for what it makes of each Pauli
pub record PauliMap : Type 0 where
  pub qubits : ℕ
  pub bytes : List ℕ

-- what it makes of a Pauli
abbrev pub image_of : PauliMap → ℕ → Signed
image_of m p = pauli_in (slice_index m.bytes p)

-- on one to three qubits it takes codes to codes, no two to one, and reaches each
pub record IsPauliMap (m : PauliMap) : Type 0 where
  pub some : 0 < m.qubits
  pub few : m.qubits ≤ 3
  pub below : (p : ℕ) → p < 4 ^ m.qubits → (image_of m p).code < 4 ^ m.qubits
  pub one_to_one : (p q : ℕ) → p < 4 ^ m.qubits → q < 4 ^ m.qubits → (image_of m p).code ≡ (image_of m q).code → p ≡ q
  pub onto : (q : ℕ) → q < 4 ^ m.qubits → ¬ ((p : ℕ) → p < 4 ^ m.qubits → (image_of m p).code ≢ q)

-- it is conjugation by these gates, the first one first
pub record IsConjugationBy (gates : List ChannelGate) (m : PauliMap) : Type 0 where
  pub fit : AllByRecursion (GateFits m.qubits) gates
  pub images : (p : ℕ) → p < 4 ^ m.qubits → image_of m p ≡ conjugated_by m.qubits gates (positive p)

-- each row of a table stands in the new one at the row of its image, with the image's sign
abbrev pub MovesRows : PauliMap → SurdTable → SurdTable → Type 0
MovesRows by old new = (p column : ℕ) → p < 4 ^ by.qubits → column < 4 ^ by.qubits
    → new (image_of by p).code column ≡ signed (image_of by p).is_negative (old p column)
