-- What the code's values say, apart from where they lie in memory.
use Rattle.std.specs.Prelude.{◌≡◌, ℕ, get_or, ◌<◌, ◌≤◌, Bool, List, [], ◌∷◌, length, map, min, Option, Some, None, option_map, is_some, ◌+◌, ◌*◌, ◌==◌, if◌then◌else◌}
use Rattle.std.specs.List.{list_any}
use Rattle.std.specs.Str.{bytes_eq}
use Rattle.std.specs.BTreeSet.{BTreeSet}
use Rattle.std.specs.BTreeMap.{BTreeMap, get_by}
use Rattle.std.specs.Ordering.{nat_cmp}
use Rattle.std.specs.Cmp.Lexicographic.{slice_cmp}
use Rattle.tc_circuit.specs.Circuit.{Gates}
use Rattle.tc_circuit.specs.Model.{IsCircuit, t_count_of}
use Rattle.tc_circuit.specs.declared.circuit.Gate.{Gate}
use Rattle.qasm_reader.specs.declared.lexemes.Lexeme.{Lexeme as CodeLexeme}
use Rattle.qasm_reader.specs.declared.forms.Argument.{Argument as CodeArgument}
use Rattle.qasm_reader.specs.declared.forms.Rotation.{Rotation as CodeRotation}
use Rattle.qasm_reader.specs.declared.forms.Form.{Form as CodeForm}
use Rattle.qasm_reader.specs.declared.forms.Form.TheVariants.{Include as CodeInclude, Qreg as CodeQreg, Creg as CodeCreg, Barrier as CodeBarrier, Apply as CodeApply, Turn as CodeTurn, Define as CodeDefine}
use Rattle.qasm_reader.specs.declared.forms.Entry.{Entry as CodeEntry}
use Rattle.qasm_reader.specs.declared.forms.Entry.TheVariants.{Barrier as CodeBar, Call as CodeCall, Spin as CodeSpin}
use Rattle.qasm_reader.specs.declared.gates.Known.{Known as CodeKnown}
use Rattle.qasm_reader.specs.declared.gates.Size.{Size}
use Rattle.qasm_reader.specs.declared.scan.Defined.{Defined}
use Rattle.qasm_reader.specs.declared.scan.Definitions.{Definitions}
use Rattle.qasm_reader.specs.declared.statements.Statement.{Statement as CodeStatement}
use Rattle.qasm_reader.specs.declared.scan.Register.{Register as CodeRegister}
use Rattle.qasm_reader.specs.declared.scan.Scan.{Scan as CodeScan}
use Rattle.qasm_reader.specs.State.{Register, State, gate_in, gate_qubits, expanded, defined, with_gate}
use Rattle.qasm_reader.specs.Rows.{Statement, has_bad_body}
use Rattle.qasm_reader.specs.Limits.{most_gates_defined}
use denote.Ref.{Bor}
use Rattle.qasm_reader.specs.Known.{Known, known}
use Rattle.qasm_reader.specs.Pieces.{meaning, IsMade, IsSource}
use Rattle.qasm_reader.specs.Lexemes.{Lexeme}
use Rattle.qasm_reader.specs.Forms.{Argument, shape, Rotation, Entry, Bar, Call, Spin, Form, Include, Qreg, Creg, Barrier, Apply, Turn, Define}

abbrev pub lexeme : CodeLexeme → Lexeme
lexeme w = record { kind = w.kind; bytes = w.bytes.now; place = w.place }

abbrev pub lexemes : List CodeLexeme → List Lexeme
lexemes ws = map lexeme ws

abbrev pub argument : CodeArgument → Argument
argument a = record { name = a.name.now; index = option_map (λ b. b.now) a.index }

abbrev pub arguments : List CodeArgument → List Argument
arguments args = map argument args

abbrev pub name_list : List (Bor (List ℕ)) → List (List ℕ)
name_list list = map (λ b. b.now) list

abbrev pub rotation : CodeRotation → Rotation
rotation r = record { name = r.name.now; angle = map shape (lexemes r.angle.items); value = r.value }

abbrev pub entry : CodeEntry → Entry
entry (CodeBar args) = Bar (name_list args.items)
entry (CodeCall name args) = Call name.now (name_list args.items)
entry (CodeSpin r name) = Spin (rotation r) name.now

abbrev pub entries : List CodeEntry → List Entry
entries body = map entry body

abbrev pub form : CodeForm → Form
form (CodeInclude text) = Include text.now
form (CodeQreg name size) = Qreg name.now size.now
form (CodeCreg name size) = Creg name.now size.now
form (CodeBarrier args) = Barrier (arguments args.items)
form (CodeApply name args) = Apply name.now (arguments args.items)
form (CodeTurn r a) = Turn (rotation r) (argument a)
form (CodeDefine d) = Define d.name.now (name_list d.names.items) (entries d.body.items)

abbrev pub known_gate : CodeKnown → Known
known_gate k = record { arity = k.arity; gates = k.gates.now }

abbrev pub register : CodeRegister → Register
register r = record { name = r.name.now; first = r.first; size = r.size }

abbrev pub registers : List CodeRegister → List Register
registers rs = map register rs

-- whether a set of names has the name
abbrev pub names : BTreeSet (Bor (List ℕ)) → List ℕ → Bool
names set name = list_any (λ n. bytes_eq name n.now) set.keys

-- the gates of a circuit, if there is one
abbrev pub gates_made : Option Gates → List Gate
gates_made None = []
gates_made (Some c) = c.gates

-- how many arguments a gate takes, how many gates it stands for, and how many of them are T gates
abbrev pub size_of : Known → Size
size_of g = record { arity = g.arity; length = length g.gates; t_count = t_count_of g.gates }

-- the gate that is defined where these are known
abbrev pub gate_of : (List ℕ → Option Known) → Defined → Known
gate_of known d = defined known (name_list d.definition.names.items) (entries d.definition.body.items)

-- the gates that are known behind definitions, one after another
abbrev pub known_behind : (List ℕ → Option Known) → List Defined → List ℕ → Option Known
known_behind known [] = known
known_behind known (d ∷ ds) = known_behind (with_gate d.definition.name.now (gate_of known d) known) ds

-- and these gates, in order of their definitions
abbrev pub meanings_behind : (List ℕ → Option Known) → List Defined → List Known
meanings_behind known [] = []
meanings_behind known (d ∷ ds) = gate_of known d ∷ meanings_behind (with_gate d.definition.name.now (gate_of known d) known) ds

-- what a scan has found so far
abbrev pub state : CodeScan → State
state s = record {
  registers = registers s.registers.items;
  named = names s.names;
  known = known_behind known s.definitions.list.items;
  qubits = s.qubits;
  began = is_some s.circuit;
  gates = gates_made s.circuit;
  count = s.count;
}

-- the size that is kept of a defined gate is the gate's; it takes an argument, its gates fit its arguments, and they are few
pub record IsKept (g : Known) (d : Defined) : Type 0 where
  pub size : d.size ≡ size_of g
  pub some : 0 < g.arity
  pub fit : IsCircuit g.arity g.gates
  pub few : length g.gates ≤ most_gates_defined

abbrev pub AreKeptBehind : (List ℕ → Option Known) → List Defined → Type 0
AreKeptBehind known [] = Unit {0}
AreKeptBehind known (d ∷ ds) = IsKept (gate_of known d) d × AreKeptBehind (with_gate d.definition.name.now (gate_of known d) known) ds

-- the definition of the known gate, which is kept
pub record IsDefinedAs (o : Option Known) (d : Defined) : Type 0 where
  pub gate : Known
  pub is : o ≡ Some gate
  pub kept : IsKept gate d

-- the place that is noted for a name
abbrev pub place_of : BTreeMap (Bor (List ℕ)) ℕ → List ℕ → Option ℕ
place_of places name = get_by (λ k. slice_cmp nat_cmp name k.now) places

-- the place is that of the definition of the known gate; without one the gate is that of the table
abbrev pub IsPlaced : List Defined → List ℕ → Option ℕ → Type 0
IsPlaced ds name None = known_behind known ds name ≡ known name
IsPlaced ds name (Some place) = (place < length ds) × ((d : Defined) → IsDefinedAs (known_behind known ds name) (get_or ds place d)) × (known_behind known ds name ≡ Some (meaning (meanings_behind known ds) place))

-- and so it is of all definitions, their pieces stand for their gates, and their places are noted
pub record AreKept (definitions : Definitions) : Type 0 where
  pub list : AreKeptBehind known definitions.list.items
  pub made : (place : ℕ) → place < length definitions.list.items → (d : Defined) → IsMade (meanings_behind known definitions.list.items) definitions.list.items place (get_or definitions.list.items place d)
  pub places : (name : List ℕ) → IsPlaced definitions.list.items name (place_of definitions.places name)

abbrev pub statement_of : CodeStatement → Statement
statement_of p = record { lexemes = lexemes p.lexemes.now; form = option_map form p.form }

-- the gate that a form defines, if it defines one
abbrev pub gate_defined : State → Option Form → Known
gate_defined s (Some (Define name names body)) = defined s.known names body
gate_defined s other = record { arity = 0; gates = [] }

-- the size, where numbers of gates are counted up to one more than the most gates of a defined gate
abbrev pub counted_size : Known → Size
counted_size g = record { arity = g.arity; length = min (length g.gates) (most_gates_defined + 1); t_count = min (t_count_of g.gates) (most_gates_defined + 1) }

abbrev pub size_or_nothing : Option Size → Size
size_or_nothing None = record { arity = 0; length = 0; t_count = 0 }
size_or_nothing (Some size) = size

-- how many gates there are where a gate of this number of arguments, with so many gates, is applied to so many qubits
abbrev pub times : ℕ → ℕ → ℕ → ℕ
times arity count qubits = if arity == 1 then count * qubits else count

-- how many of what is counted there are where a gate of this size, which may be known, is applied to so many qubits
abbrev pub count_at : (Size → ℕ) → Option Size → ℕ → ℕ
count_at count None qubits = 0
count_at count (Some size) qubits = times size.arity (count size) qubits

-- these gates on these qubits, where the gate that stands for them has this size, if it is known
abbrev pub gates_with : Option Size → List Gate → List ℕ → List Gate
gates_with None gates qs = []
gates_with (Some size) gates qs = expanded (record { arity = size.arity; gates = gates }) qs

-- what the statement says of its gate, its qubits and its body is what its form says behind this state
pub record IsBehind (s : State) (p : CodeStatement) : Type 0 where
  pub size : p.size ≡ option_map size_of (gate_in s.known (option_map form p.form))
  pub qubits : p.qubits.items ≡ gate_qubits s (option_map form p.form)
  pub bad : p.has_bad_body ≡ has_bad_body s (option_map form p.form)
  pub body : p.body ≡ counted_size (gate_defined s (option_map form p.form))

-- the source of a statement's gate is that of the gate that its form applies, behind these definitions
abbrev pub HasSource : Definitions → (List ℕ → Option Known) → CodeStatement → Type 0
HasSource definitions known_then p = IsSource (meanings_behind known definitions.list.items) definitions.list.items (gate_in known_then (option_map form p.form)) p.source
