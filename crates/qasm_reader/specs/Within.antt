-- Statements within the limits, to which no row applies.
use Rattle.std.specs.Prelude.{◌≡◌, ℕ, ◌+◌, ◌<◌, ◌≤◌, false, List, length, codes, Some, None}
use Rattle.std.specs.List.{AllByRecursion, flat_map}
use Rattle.tc_circuit.specs.Model.{t_count_of}
use Rattle.qasm_reader.specs.Lexemes.{Lexeme}
use Rattle.qasm_reader.specs.Forms.{Argument, Form, Include, Qreg, Apply, IsForm}
use Rattle.qasm_reader.specs.Known.{Known}
use Rattle.qasm_reader.specs.Limits.{most_qubits, most_t_gates, most_gates, most_statements}
use Rattle.qasm_reader.specs.State.{Register, State, value, find_register, qubits_of, expanded}
use Rattle.qasm_reader.specs.Rows.{has_twins, row_of}

-- behind this state no row applies to the lexemes, which have the form
abbrev pub MeetsNoRow : State → List Lexeme → Form → Type 0
MeetsNoRow s ws f = row_of s (record { lexemes = ws; form = Some f }) ≡ None

-- the argument has an index, and this is below the size of its register
pub record IsIndexed (rs : List Register) (a : Argument) : Type 0 where
  pub register : Register
  pub digits : List ℕ
  pub found : find_register rs a.name ≡ Some register
  pub index : a.index ≡ Some digits
  pub below : value digits < register.size

-- the register's name is new, no gate was applied, it has a qubit and with it there are few, and few statements stand before it
pub record IsNewRegister (s : State) (name size : List ℕ) : Type 0 where
  pub named : s.named name ≡ false
  pub began : s.began ≡ false
  pub some : 0 < value size
  pub few : s.qubits + value size ≤ most_qubits
  pub short : s.count < most_statements

-- the gate takes as many arguments, each has an index, they name different qubits, with its gates there are few T gates and few
-- gates, and few statements stand before it
pub record IsNewGate (s : State) (g : Known) (args : List Argument) : Type 0 where
  pub arity : g.arity ≡ length args
  pub indexed : AllByRecursion (IsIndexed s.registers) args
  pub apart : has_twins (flat_map (qubits_of s.registers) args) ≡ false
  pub low : t_count_of s.gates + t_count_of (expanded g (flat_map (qubits_of s.registers) args)) ≤ most_t_gates
  pub few : length s.gates + length (expanded g (flat_map (qubits_of s.registers) args)) ≤ most_gates
  pub short : s.count < most_statements

-- includes of the library are taken, behind few statements
abbrev pub IncludesAreTaken : Type 0
IncludesAreTaken = (s : State) (ws : List Lexeme) → IsForm ws (Include (codes "\"qelib1.inc\"")) → s.count < most_statements → MeetsNoRow s ws (Include (codes "\"qelib1.inc\""))

-- registers of qubits within the limits are taken
abbrev pub RegistersAreTaken : Type 0
RegistersAreTaken = (s : State) (ws : List Lexeme) (name size : List ℕ) → IsForm ws (Qreg name size) → IsNewRegister s name size → MeetsNoRow s ws (Qreg name size)

-- known gates within the limits are taken
abbrev pub GatesAreTaken : Type 0
GatesAreTaken = (s : State) (ws : List Lexeme) (name : List ℕ) (args : List Argument) (g : Known) → IsForm ws (Apply name args) → s.known name ≡ Some g → IsNewGate s g args
    → MeetsNoRow s ws (Apply name args)
