-- Channels as tables over the Pauli operators: the table of a unitary U has tr(P·U·Q·U†)/2^n at row P and column Q, rows
-- and columns being codes. Here they are built step by step, with no complex matrix.
-- Source: Gosset, Kliuchnikov, Mosca and Russo, An algorithm for the T-count, 2014, section 2.3.
use Rattle.std.specs.Prelude.{◌≡◌, ◌≢◌, ℕ, ◌+◌, ◌^◌, ◌<◌, Bool, true, false, not, if◌then◌else◌, List, [], ◌∷◌}
use Rattle.std.specs.List.{AllByRecursion}
use Rattle.ring_laws.specs.Ring.{power}
use Rattle.ring_laws.specs.Matrix.{identity, product}
use Rattle.tc_ring.specs.Surds.{Surd, surds, surd_plus, surd_times, surd_negative, root2_surd}
use Rattle.pauli_basis.specs.Products.{product_code, commute, anti_sign}
use Rattle.channel_rep.specs.Gates.{image, GateFits}
use Rattle.channel_rep.specs.declared.gate.ChannelGate.{ChannelGate}

-- an entry for each row and column; those past the size say nothing
abbrev pub SurdTable : Type 0
SurdTable = ℕ → ℕ → Surd

-- a number with a sign
unfoldable pub signed : Bool → Surd → Surd
signed negative x = if negative then surd_negative x else x

-- a gate's table, a signed permutation: column Q has its one entry at the row of g·Q·g†
unfoldable pub gate_table : ℕ → ChannelGate → SurdTable
gate_table n g row column = signed (image n g column).is_negative (identity surds row (image n g column).code)

-- the sign of a rotation, or the other sign for its inverse
abbrev pub turned_over : Bool → Bool → Bool
turned_over true negative = not negative
turned_over false negative = negative

-- the table of the rotation R(P), or of its inverse, times √2: column Q is √2 times that of Q where P and Q commute, and
-- else Q + σ·S, where −i·P·Q = σ·S; the inverse has −σ
unfoldable pub rotation_table : ℕ → Bool → ℕ → SurdTable
rotation_table n inverse p row column =
    if commute n p column
    then surd_times root2_surd (identity surds row column)
    else surd_plus (identity surds row column) (signed (turned_over inverse (anti_sign n p column)) (identity surds row (product_code p column)))

-- a table whose entries are all divided by √2 to one power
pub record ScaledTable : Type 0 where
  pub table : SurdTable
  pub exponent : ℕ

-- the steps of which channels are built: a Clifford gate, a rotation by a Pauli, or the inverse of one
pub data Step : Type 0 where
  by_gate : ChannelGate → Step
  by_rotation : ℕ → Step
  by_inverse_rotation : ℕ → Step

-- a step on n qubits; the Pauli of a rotation isn't the identity
abbrev pub IsStep : ℕ → Step → Type 0
IsStep n (by_gate g) = GateFits n g
IsStep n (by_rotation p) = (p < 4 ^ n) × (p ≢ 0)
IsStep n (by_inverse_rotation p) = (p < 4 ^ n) × (p ≢ 0)

abbrev pub step_table : ℕ → Step → SurdTable
step_table n (by_gate g) = gate_table n g
step_table n (by_rotation p) = rotation_table n false p
step_table n (by_inverse_rotation p) = rotation_table n true p

-- how often its entries are to be divided by √2
abbrev pub step_exponent : Step → ℕ
step_exponent (by_gate g) = 0
step_exponent (by_rotation p) = 1
step_exponent (by_inverse_rotation p) = 1

-- a step's table times a table
abbrev pub stepped : ℕ → Step → ScaledTable → ScaledTable
stepped n s m = record { table = product surds (4 ^ n) (step_table n s) m.table; exponent = step_exponent s + m.exponent }

-- a table, and then the steps: each step's table times what came before it
abbrev pub built_on : ℕ → ScaledTable → List Step → ScaledTable
built_on n m [] = m
built_on n m (s ∷ steps) = built_on n (stepped n s m) steps

-- the product of the steps' tables, the last step leftmost
abbrev pub built : ℕ → List Step → ScaledTable
built n steps = built_on n (record { table = identity surds; exponent = 0 }) steps

-- the same entries, both brought to one power of √2
abbrev pub SameTable : ℕ → ScaledTable → ScaledTable → Type 0
SameTable n a b = (row column : ℕ) → row < 4 ^ n → column < 4 ^ n
    → surd_times (power surds root2_surd b.exponent) (a.table row column) ≡ surd_times (power surds root2_surd a.exponent) (b.table row column)

-- the table of a list of steps
abbrev pub IsBuiltOf : ℕ → List Step → ScaledTable → Type 0
IsBuiltOf n steps m = SameTable n m (built n steps)

-- a circuit's channel: the table of some list of steps
abbrev pub IsCircuitChannel : ℕ → ScaledTable → Type 0
IsCircuitChannel n m = (steps : List Step) × AllByRecursion (IsStep n) steps × IsBuiltOf n steps m
