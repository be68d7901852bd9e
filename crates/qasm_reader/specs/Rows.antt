-- The rows by which a statement is refused: one definition for each reason, and their order. A row that asks how many arguments
-- a form's gate takes is given it, if the gate is known. The reasons, their order and the limits are this project's own.
use Rattle.std.specs.Prelude.{ℕ, ◌+◌, Bool, false, ◌&&◌, ◌||◌, ◌==◌, not, List, [], ◌∷◌, length, codes, Option, Some, None, nat_lt, nat_le, option_map, true}
use Rattle.std.specs.List.{list_any, find}
use Rattle.std.specs.Str.{bytes_eq}
use Rattle.std.specs.Option.{is_none, is_some}
use Rattle.tc_circuit.specs.Model.{t_count_of}
use Rattle.qasm_lex.specs.declared.token.Kind.TheVariants.{LeftParen}
use Rattle.qasm_reader.specs.declared.refusal.Refusal.{Refusal}
use Rattle.qasm_reader.specs.declared.refusal.Refusal.TheVariants.{Header, BadByte, Statement as NoStatement, UnknownGate, UnknownRegister, Index, SameQubit, Qubits, TooManyT, TooLong, NotInProfile, TwoNames, Body, TooManyGates, Angle}
use Rattle.qasm_reader.specs.Lexemes.{Lexeme, is_kind, is_ident, is_name, closer}
use Rattle.qasm_angle.specs.declared.angles.AngleValue.{AngleValue}
use Rattle.qasm_angle.specs.declared.angles.AngleValue.TheVariants.{Eighths, Inexact, NotAngle}
use Rattle.qasm_reader.specs.Forms.{Argument, Entry, Bar, Call, Spin, Form, Include, Qreg, Creg, Barrier, Apply, Turn, Define}
use Rattle.qasm_reader.specs.Known.{Known}
use Rattle.qasm_reader.specs.Limits.{most_qubits, most_t_gates, most_statements, most_gates_defined, most_gates}
use Rattle.qasm_reader.specs.State.{Register, State, value, find_register, gate_in, gate_qubits, gates_in, defined}

-- a statement, with the form that it has, if it has one
pub record Statement : Type 0 where
  pub lexemes : List Lexeme
  pub form : Option Form

abbrev pub last_of : Lexeme → List Lexeme → Lexeme
last_of w [] = w
last_of w (v ∷ ws) = last_of v ws

-- whether the last token is the one that ends a statement with this first token
abbrev pub ends : List Lexeme → Bool
ends [] = false
ends (w ∷ ws) = is_kind (closer w) (last_of w ws)

-- the words that begin a statement of OpenQASM 2.0 outside the profile
abbrev pub foreign : List (List ℕ)
foreign = codes "measure" ∷ codes "reset" ∷ codes "if" ∷ codes "opaque" ∷ codes "U" ∷ codes "CX" ∷ []

abbrev pub is_foreign : List Lexeme → Bool
is_foreign [] = false
is_foreign (w ∷ ws) = list_any (λ text. is_ident text w) foreign

-- a name and a parenthesis: a gate with parameters
abbrev pub is_call : List Lexeme → Bool
is_call [] = false
is_call (w ∷ []) = false
is_call (w ∷ v ∷ ws) = is_name w && is_kind LeftParen v

-- a parenthesis, or a word of the standard's own gates
abbrev pub is_beyond_bodies : Lexeme → Bool
is_beyond_bodies w = is_kind LeftParen w || (is_ident (codes "U") w || is_ident (codes "CX") w)

abbrev pub is_definition : List Lexeme → Bool
is_definition [] = false
is_definition (w ∷ ws) = is_ident (codes "gate") w

-- a definition of a gate with a parenthesis in it, or a word of the standard's own gates
abbrev pub is_wide_definition : List Lexeme → Bool
is_wide_definition ws = is_definition ws && list_any is_beyond_bodies ws

-- whether the form is that of a gate of an angle
abbrev pub is_turn : Option Form → Bool
is_turn (Some (Turn r a)) = true
is_turn other = false

-- whether the form is that of a definition
abbrev pub defines : Option Form → Bool
defines (Some (Define name names body)) = true
defines other = false

-- a statement of OpenQASM 2.0 outside the profile, by its tokens: it begins with a word outside the profile; or with a name and a
-- parenthesis, and isn't a gate of an angle; or it is a definition with a parenthesis or a word of the standard's own gates, and
-- hasn't the form of one here
abbrev pub is_outside_profile : Statement → Bool
is_outside_profile p = is_foreign p.lexemes || ((is_call p.lexemes && not (is_turn p.form)) || (is_wide_definition p.lexemes && not (defines p.form)))

abbrev pub takes_other : Option ℕ → ℕ → Bool
takes_other None n = false
takes_other (Some arity) n = not (arity == n)

-- a known gate on another number of arguments than it takes
abbrev pub has_other_arity : Option ℕ → Option Form → Bool
has_other_arity arity (Some (Apply name args)) = takes_other arity (length args)
has_other_arity arity other = false

-- Statement: it hasn't its end; or it has it and no form, and isn't outside the profile by its tokens; or it has a known gate on
-- another number of arguments
unfoldable pub is_no_statement : Option ℕ → Statement → Bool
is_no_statement arity p = not (ends p.lexemes) || ((is_none p.form && not (is_outside_profile p)) || has_other_arity arity p.form)

abbrev pub takes_bare : Option ℕ → List Argument → Bool
takes_bare None args = false
takes_bare (Some arity) args = nat_lt 1 arity && (arity == length args && list_any (λ a. is_none a.index) args)

-- a gate of two or more arguments, as many as it takes, of which one has no index
abbrev pub has_bare : Option ℕ → Option Form → Bool
has_bare arity (Some (Apply name args)) = takes_bare arity args
has_bare arity other = false

-- an include of another text than `qelib1.inc`
abbrev pub includes_other : Option Form → Bool
includes_other (Some (Include text)) = not (bytes_eq text (codes "\"qelib1.inc\""))
includes_other other = false

-- NotInProfile: it has its end, and is outside the profile by its tokens; or it includes another text; or a gate of two or more
-- arguments stands on a whole register
unfoldable pub is_not_in_profile : Option ℕ → Statement → Bool
is_not_in_profile arity p = (ends p.lexemes && is_outside_profile p) || (includes_other p.form || has_bare arity p.form)

-- the names of gates of an angle, which no text may define
abbrev pub withheld : List (List ℕ)
withheld = codes "u1" ∷ codes "rz" ∷ []

-- TwoNames: it declares a register of a name that was declared before; or qubits, and a gate was applied before; or it defines a
-- gate of a name that is known, or is that of a gate of an angle
abbrev pub is_taken : State → Option Form → Bool
is_taken s (Some (Qreg name size)) = s.named name || s.began
is_taken s (Some (Creg name size)) = s.named name
is_taken s (Some (Define name names body)) = is_some (s.known name) || list_any (bytes_eq name) withheld
is_taken s other = false

-- whether a name is among names
abbrev pub is_among : List (List ℕ) → List ℕ → Bool
is_among names name = list_any (bytes_eq name) names

-- whether a name stands twice among names
abbrev pub has_twin_names : List (List ℕ) → Bool
has_twin_names [] = false
has_twin_names (name ∷ names) = is_among names name || has_twin_names names

-- whether one of them isn't among names
abbrev pub has_stranger : List (List ℕ) → List (List ℕ) → Bool
has_stranger names args = list_any (λ a. not (is_among names a)) args

-- whether a gate isn't known, or takes another number of arguments than these, or one stands twice among them
abbrev pub is_bad_call : Option ℕ → List (List ℕ) → Bool
is_bad_call None args = true
is_bad_call (Some arity) args = not (arity == length args) || has_twin_names args

-- how many arguments the gate of a name takes, if it is known
abbrev pub arity_of : (List ℕ → Option Known) → List ℕ → Option ℕ
arity_of known name = option_map (λ g. g.arity) (known name)

abbrev pub is_bad_entry : (List ℕ → Option Known) → List (List ℕ) → Entry → Bool
is_bad_entry known names (Bar args) = has_stranger names args
is_bad_entry known names (Call name args) = has_stranger names args || is_bad_call (arity_of known name) args
is_bad_entry known names (Spin r name) = not (is_among names name)

-- Body: it defines a gate whose names hold one twice; or with an entry that holds another name, or whose gate wasn't known before
-- this statement, takes another number of arguments, or has one name twice
abbrev pub has_bad_body : State → Option Form → Bool
has_bad_body s (Some (Define name names body)) = has_twin_names names || list_any (is_bad_entry s.known names) body
has_bad_body s other = false

-- UnknownGate: it applies a gate that isn't known
abbrev pub is_unknown : Option ℕ → Option Form → Bool
is_unknown arity (Some (Apply name args)) = is_none arity
is_unknown arity other = false

-- whether an angle is a whole number of eighths of a full turn
abbrev pub is_exact : AngleValue → Bool
is_exact (Eighths j) = true
is_exact Inexact = false
is_exact NotAngle = false

abbrev pub is_inexact_entry : Entry → Bool
is_inexact_entry (Bar args) = false
is_inexact_entry (Call name args) = false
is_inexact_entry (Spin r name) = not (is_exact r.value)

-- Angle: it applies a gate of an angle that isn't exact, or its body does
abbrev pub has_inexact_angle : Option Form → Bool
has_inexact_angle (Some (Turn r a)) = not (is_exact r.value)
has_inexact_angle (Some (Define name names body)) = list_any is_inexact_entry body
has_inexact_angle other = false

-- the arguments of a barrier or a gate
abbrev pub arguments_of : Option Form → List Argument
arguments_of (Some (Barrier args)) = args
arguments_of (Some (Apply name args)) = args
arguments_of (Some (Turn r a)) = a ∷ []
arguments_of other = []

-- UnknownRegister: an argument of a barrier or a gate is of no register of qubits declared before
abbrev pub has_no_register : State → Option Form → Bool
has_no_register s f = list_any (λ a. is_none (find_register s.registers a.name)) (arguments_of f)

abbrev pub is_outside : Option Register → Option (List ℕ) → Bool
is_outside (Some r) (Some digits) = nat_le r.size (value digits)
is_outside other index = false

abbrev pub is_empty_size : Option Form → Bool
is_empty_size (Some (Qreg name size)) = value size == 0
is_empty_size (Some (Creg name size)) = value size == 0
is_empty_size other = false

-- Index: it declares a register of size 0; or an index of a barrier or a gate isn't below its register's size
abbrev pub has_bad_index : State → Option Form → Bool
has_bad_index s f = is_empty_size f || list_any (λ a. is_outside (find_register s.registers a.name) a.index) (arguments_of f)

abbrev pub has_twins : List ℕ → Bool
has_twins [] = false
has_twins (q ∷ qs) = list_any (λ r. r == q) qs || has_twins qs

-- SameQubit: two arguments of a gate name one qubit
abbrev pub names_twice : State → Option Form → Bool
names_twice s (Some (Apply name args)) = has_twins (gate_qubits s (Some (Apply name args)))
names_twice s other = false

-- Qubits: with the qubits that it declares there are more than the most
abbrev pub has_too_many_qubits : State → Option Form → Bool
has_too_many_qubits s (Some (Qreg name size)) = nat_lt most_qubits (s.qubits + value size)
has_too_many_qubits s other = false

-- TooManyT: with its gates there are more T gates than the most
abbrev pub has_too_many_t : State → Option Form → Bool
has_too_many_t s (Some (Apply name args)) = nat_lt most_t_gates (t_count_of s.gates + t_count_of (gates_in s (Some (Apply name args))))
has_too_many_t s (Some (Turn r a)) = nat_lt most_t_gates (t_count_of s.gates + t_count_of (gates_in s (Some (Turn r a))))
has_too_many_t s other = false

-- TooManyGates: it defines a gate that stands for more gates than the most; or with its gates there are more than the most
abbrev pub has_too_many_gates : State → Option Form → Bool
has_too_many_gates s (Some (Define name names body)) = nat_lt most_gates_defined (length (defined s.known names body).gates)
has_too_many_gates s (Some (Apply name args)) = nat_lt most_gates (length s.gates + length (gates_in s (Some (Apply name args))))
has_too_many_gates s (Some (Turn r a)) = nat_lt most_gates (length s.gates + length (gates_in s (Some (Turn r a))))
has_too_many_gates s other = false

-- TooLong: as many statements as there may be stand before it
abbrev pub is_too_long : State → Bool
is_too_long s = nat_le most_statements s.count

-- how many arguments the gate of a form takes, if it is known
abbrev pub arity_in : (List ℕ → Option Known) → Option Form → Option ℕ
arity_in known f = option_map (λ g. g.arity) (gate_in known f)

-- whether the row of a reason applies to a statement; the first two reasons are those of a whole text
abbrev pub applies : State → Statement → Refusal → Bool
applies s p Header = false
applies s p BadByte = false
applies s p NoStatement = is_no_statement (arity_in s.known p.form) p
applies s p NotInProfile = is_not_in_profile (arity_in s.known p.form) p
applies s p TwoNames = is_taken s p.form
applies s p Body = has_bad_body s p.form
applies s p UnknownGate = is_unknown (arity_in s.known p.form) p.form
applies s p Angle = has_inexact_angle p.form
applies s p UnknownRegister = has_no_register s p.form
applies s p Index = has_bad_index s p.form
applies s p SameQubit = names_twice s p.form
applies s p Qubits = has_too_many_qubits s p.form
applies s p TooManyT = has_too_many_t s p.form
applies s p TooManyGates = has_too_many_gates s p.form
applies s p TooLong = is_too_long s

-- the reasons in the order of their rows
abbrev pub order : List Refusal
order = NoStatement ∷ NotInProfile ∷ TwoNames ∷ Body ∷ UnknownGate ∷ Angle ∷ UnknownRegister ∷ Index ∷ SameQubit ∷ Qubits ∷ TooManyT ∷ TooManyGates ∷ TooLong ∷ []

-- the first row that applies to the statement, if one does
unfoldable pub row_of : State → Statement → Option Refusal
row_of s p = find (applies s p) order
