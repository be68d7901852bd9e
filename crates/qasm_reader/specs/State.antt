-- What the statements of a text have said before one of them, and what each form adds to it (OpenQASM 2.0).
use Rattle.std.specs.Prelude.{ℕ, ◌+◌, ◌-◌, ◌*◌, Bool, true, false, ◌==◌, ◌||◌, List, [], ◌∷◌, ◌++◌, length, map, Option, Some, None, if◌then◌else◌, nat_lt, slice_index, fold}
use Rattle.std.specs.List.{flat_map, range_with_len, position_or_len}
use Rattle.std.specs.Str.{bytes_eq}
use Rattle.tc_circuit.specs.declared.circuit.Gate.{Gate}
use Rattle.tc_circuit.specs.declared.circuit.Gate.TheVariants.{H, S, Sdg, T, Tdg, Cx}
use Rattle.qasm_reader.specs.Forms.{Argument, Entry, Bar, Call, Spin, Form, Qreg, Creg, Apply, Turn, Define}
use Rattle.qasm_reader.specs.Known.{Known, known, turned}

-- a register of qubits: its name, its first qubit, and how many it has
pub record Register : Type 0 where
  pub name : List ℕ
  pub first : ℕ
  pub size : ℕ

-- the registers of qubits, whether a register of qubits or of bits has a name, the gate of a name if it is known, how many
-- qubits there are, whether a gate was applied, the gates in order, and how many statements there were
pub record State : Type 0 where
  pub registers : List Register
  pub named : List ℕ → Bool
  pub known : List ℕ → Option Known
  pub qubits : ℕ
  pub began : Bool
  pub gates : List Gate
  pub count : ℕ

abbrev pub start : State
start = record { registers = []; named = λ name. false; known = known; qubits = 0; began = false; gates = []; count = 0 }

-- the number that digits write, of any size
abbrev pub value : List ℕ → ℕ
value digits = fold (λ n b. n * 10 + (b - 48)) 0 digits

abbrev pub find_register : List Register → List ℕ → Option Register
find_register [] name = None
find_register (r ∷ rs) name = if bytes_eq r.name name then Some r else find_register rs name

-- the qubits of a register that an argument names: the one at its index, or all in rising order where it has no index
abbrev pub qubits_in : Register → Option (List ℕ) → List ℕ
qubits_in r None = range_with_len r.first r.size
qubits_in r (Some digits) = if nat_lt (value digits) r.size then (r.first + value digits) ∷ [] else []

abbrev pub qubits_at : Option Register → Option (List ℕ) → List ℕ
qubits_at None index = []
qubits_at (Some r) index = qubits_in r index

-- the qubits that an argument names
abbrev pub qubits_of : List Register → Argument → List ℕ
qubits_of rs a = qubits_at (find_register rs a.name) a.index

-- a gate with qubits in place of the numbers of the arguments
abbrev pub placed : List ℕ → Gate → Gate
placed qs (H a) = H (slice_index qs a)
placed qs (S a) = S (slice_index qs a)
placed qs (Sdg a) = Sdg (slice_index qs a)
placed qs (T a) = T (slice_index qs a)
placed qs (Tdg a) = Tdg (slice_index qs a)
placed qs (Cx a b) = Cx (slice_index qs a) (slice_index qs b)

-- the gates of a known gate on these qubits; a gate of one argument stands on each of them in turn
abbrev pub expanded : Known → List ℕ → List Gate
expanded g qs = if g.arity == 1 then flat_map (λ q. map (placed (q ∷ [])) g.gates) qs else map (placed qs) g.gates

abbrev pub gates_at : Option Known → List ℕ → List Gate
gates_at None qs = []
gates_at (Some g) qs = expanded g qs

-- the qubits that the arguments of a gate name, one after another
abbrev pub gate_qubits : State → Option Form → List ℕ
gate_qubits s (Some (Apply name args)) = flat_map (qubits_of s.registers) args
gate_qubits s (Some (Turn r a)) = flat_map (qubits_of s.registers) (a ∷ [])
gate_qubits s other = []

-- the gate that a form applies: one of the known gates, or that of an exact angle
abbrev pub gate_in : (List ℕ → Option Known) → Option Form → Option Known
gate_in known (Some (Apply name args)) = known name
gate_in known (Some (Turn r a)) = turned r.value
gate_in known other = None

-- the gates that a form stands for
abbrev pub gates_in : State → Option Form → List Gate
gates_in s f = gates_at (gate_in s.known f) (gate_qubits s f)

-- the place of a name among names
abbrev pub place_among : List (List ℕ) → List ℕ → ℕ
place_among names name = position_or_len (bytes_eq name) names

abbrev pub called : Option Known → List ℕ → List Gate
called None places = []
called (Some g) places = map (placed places) g.gates

-- the gates of an entry of a body, whose qubits are the places of the body's names
abbrev pub entry_gates : (List ℕ → Option Known) → List (List ℕ) → Entry → List Gate
entry_gates known names (Bar args) = []
entry_gates known names (Call name args) = called (known name) (map (place_among names) args)
entry_gates known names (Spin r name) = called (turned r.value) (place_among names name ∷ [])

-- the gate that is defined by a body on names, where these gates are known: the gates of its entries in order
abbrev pub defined : (List ℕ → Option Known) → List (List ℕ) → List Entry → Known
defined known names body = record { arity = length names; gates = flat_map (entry_gates known names) body }

-- the known gates, and one more
abbrev pub with_gate : List ℕ → Known → (List ℕ → Option Known) → List ℕ → Option Known
with_gate name g known other = if bytes_eq other name then Some g else known other

-- the names, and one more
abbrev pub with_name : List ℕ → (List ℕ → Bool) → List ℕ → Bool
with_name name named other = bytes_eq other name || named other

-- what a form adds
abbrev pub declared : State → Option Form → State
declared s (Some (Qreg name size)) = record s {
  registers = s.registers ++ record { name = name; first = s.qubits; size = value size } ∷ [];
  named = with_name name s.named;
  qubits = s.qubits + value size;
}
declared s (Some (Creg name size)) = record s { named = with_name name s.named }
declared s (Some (Apply name args)) = record s { began = true; gates = s.gates ++ gates_in s (Some (Apply name args)) }
declared s (Some (Turn r a)) = record s { began = true; gates = s.gates ++ gates_in s (Some (Turn r a)) }
declared s (Some (Define name names body)) = record s { known = with_gate name (defined s.known names body) s.known }
declared s other = s

-- what holds behind a statement: what its form adds, and that there is one statement more
abbrev pub after : State → Option Form → State
after s f = let next = declared s f in record next { count = next.count + 1 }
