-- What the private functions say of a scan: one statement taken, and all of them.
use Rattle.std.specs.Prelude.{◌≡◌, ℕ, ◌+◌, ◌<◌, ◌≤◌, false, List, length, map, Option, Some, None, Ok, Err, IfSome}
use Rattle.tc_circuit.specs.Model.{IsCircuit, t_count_of}
use Rattle.qasm_reader.specs.declared.fault.ReadFault.{ReadFault}
use Rattle.qasm_reader.specs.declared.fault.ReadFault.TheVariants.{Refused, Memory}
use Rattle.qasm_reader.specs.declared.refusal.Refusal.{Refusal}
use Rattle.qasm_reader.specs.declared.scan.Scan.{Scan}
use Rattle.qasm_reader.specs.Lexemes.{Lexeme, statements}
use Rattle.qasm_reader.specs.Forms.{Form, Qreg, Apply, Turn, Define}
use Rattle.qasm_reader.specs.Parse.{form_of}
use Rattle.qasm_reader.specs.State.{State, start, value, gate_in, gates_in, defined, after}
use Rattle.qasm_reader.specs.Limits.{most_qubits, most_t_gates, most_gates_defined}
use Rattle.qasm_reader.specs.Refusals.{number_of}
use Rattle.qasm_reader.specs.Rows.{Statement, has_bad_body, row_of}
use Rattle.qasm_reader.specs.Read.{place_of, scan}
use Rattle.qasm_reader.specs.View.{gates_with, count_at, state, AreKept}
use Rattle.qasm_reader.specs.Known.{Known}
use Rattle.qasm_reader.specs.Pieces.{source_gates, IsNarrow}
use Rattle.qasm_reader.specs.declared.gates.Size.{Size}
use Rattle.qasm_reader.specs.declared.pieces.Source.{Source}
use Rattle.qasm_reader.specs.declared.scan.Defined.{Defined}

-- a statement with its form
abbrev pub statement_at : List Lexeme → Statement
statement_at ws = record { lexemes = ws; form = form_of ws }

abbrev pub stated : List (List Lexeme) → List Statement
stated wss = map statement_at wss

-- what the code relies on where it takes a form that applies a gate: its gates fit, have few T gates and are of a gate that takes
-- few arguments
abbrev pub AreTakeable : State → Option Form → Type 0
AreTakeable s f = (0 < s.qubits) × (IfSome (gate_in s.known f) (λ g. g.arity ≤ most_qubits)) × IsCircuit s.qubits (gates_in s f) × (t_count_of s.gates + t_count_of (gates_in s f) ≤ most_t_gates)

-- and where it takes any: qubits come before gates and are few, and a defined gate has names, a body that is good, and few gates
abbrev pub IsTakeable : State → Option Form → Type 0
IsTakeable s (Some (Qreg name size)) = (s.began ≡ false) × (0 < value size) × (s.qubits + value size ≤ most_qubits)
IsTakeable s (Some (Define name names body)) = (0 < length names) × (has_bad_body s (Some (Define name names body)) ≡ false) × (length (defined s.known names body).gates ≤ most_gates_defined)
IsTakeable s (Some (Apply name args)) = AreTakeable s (Some (Apply name args))
IsTakeable s (Some (Turn r a)) = AreTakeable s (Some (Turn r a))
IsTakeable s other = Unit {0}

-- what is relied on where the gates of a source, of a gate of this size, are added on these qubits
pub record AreAddable (s : State) (gs : List Known) (ds : List Defined) (source : Source) (size : Option Size) (qs : List ℕ) : Type 0 where
  pub narrow : IsNarrow gs ds source
  pub some : 0 < s.qubits
  pub fit : IsCircuit s.qubits (gates_with size (source_gates gs source) qs)
  pub few : t_count_of s.gates + t_count_of (gates_with size (source_gates gs source) qs) ≤ most_t_gates
  pub counted : t_count_of (gates_with size (source_gates gs source) qs) ≡ count_at (λ z. z.t_count) size (length qs)

-- no row applies to the statement, and this holds behind it
abbrev pub Takes : State → List Lexeme → Scan → Type 0
Takes s ws t = (row_of s (statement_at ws) ≡ None) × (state t ≡ after s (form_of ws)) × AreKept t.definitions

-- the fault is the first row that applies to the statement, at its first token, or want of memory
abbrev pub IsRowFault : State → List Lexeme → ReadFault → Type 0
IsRowFault s ws (Refused number place) = (why : Refusal) × (row_of s (statement_at ws) ≡ Some why) × (number ≡ number_of why) × (place ≡ place_of 0 ws)
IsRowFault s ws Memory = Unit {0}

-- no row applies to a statement of the lexemes, and this holds behind all
abbrev pub Scans : List Lexeme → Scan → Type 0
Scans ws t = scan start (stated (statements ws)) ≡ Ok (state t)

-- the fault is that of the first statement to which a row applies, or want of memory
abbrev pub IsScanFault : List Lexeme → ReadFault → Type 0
IsScanFault ws (Refused number place) = (why : Refusal) × (scan start (stated (statements ws)) ≡ Err (record { refusal = why; place = place })) × (number ≡ number_of why)
IsScanFault ws Memory = Unit {0}
