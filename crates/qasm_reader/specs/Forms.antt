-- The forms of a statement: how each is spelled in tokens (OpenQASM 2.0).
-- An include, a register of qubits, a register of bits, a barrier, a gate on arguments, a gate of an angle on an argument, and a
-- definition of a gate without parameters, whose body holds gates, gates of an angle and barriers on its names.
use Rattle.std.specs.Prelude.{◌≡◌, ℕ, ◌<◌, Bool, true, false, ◌||◌, IsTrue, IfSome, List, [], ◌∷◌, ◌++◌, length, map, codes, Option, Some, None, MatchOption}
use Rattle.std.specs.List.{AllByRecursion, flat_map}
use Rattle.std.specs.Str.{bytes_eq}
use Rattle.qasm_lex.specs.declared.token.Kind.{Kind}
use Rattle.qasm_lex.specs.declared.token.Kind.TheVariants.{Ident, Number, Quoted, Semi, Comma, LeftBracket, RightBracket, LeftBrace, RightBrace, LeftParen, RightParen, Other}
use Rattle.qasm_angle.specs.declared.symbols.Symbol.{Symbol}
use Rattle.qasm_angle.specs.declared.angles.AngleValue.{AngleValue}
use Rattle.qasm_angle.specs.declared.angles.AngleValue.TheVariants.{Eighths, Inexact, NotAngle}
use Rattle.qasm_angle.specs.Symbols.{symbol}
use Rattle.qasm_angle.specs.Angles.{HasValue}
use Rattle.qasm_reader.specs.Lexemes.{Lexeme, is_free, is_whole}

-- `name` or `name [ digits ]`
pub record Argument : Type 0 where
  pub name : List ℕ
  pub index : Option (List ℕ)

-- what a spelling says of a token: its kind, and its bytes where the kind leaves them open
pub record Shape : Type 0 where
  pub kind : Kind
  pub bytes : List ℕ

-- a gate of an angle: its name, the tokens of the angle, and what the angle is
pub record Rotation : Type 0 where
  pub name : List ℕ
  pub angle : List Shape
  pub value : AngleValue

-- what an entry of a gate's body says: a barrier, or a gate, on names, or a gate of an angle, on a name
pub data Entry : Type 0 where
  Bar : List (List ℕ) → Entry
  Call : List ℕ → List (List ℕ) → Entry
  Spin : Rotation → List ℕ → Entry

-- what a statement says: the bytes of its quoted text, names and digits; a definition has the gate's name, its names and its body
pub data Form : Type 0 where
  Include : List ℕ → Form
  Qreg : List ℕ → List ℕ → Form
  Creg : List ℕ → List ℕ → Form
  Barrier : List Argument → Form
  Apply : List ℕ → List Argument → Form
  Turn : Rotation → Argument → Form
  Define : List ℕ → List (List ℕ) → List Entry → Form

abbrev pub told_bytes : Kind → List ℕ → List ℕ
told_bytes Ident bytes = bytes
told_bytes Number bytes = bytes
told_bytes Quoted bytes = bytes
told_bytes Semi bytes = []
told_bytes Comma bytes = []
told_bytes LeftBracket bytes = []
told_bytes RightBracket bytes = []
told_bytes LeftBrace bytes = []
told_bytes RightBrace bytes = []
told_bytes LeftParen bytes = []
told_bytes RightParen bytes = []
told_bytes Other bytes = bytes

abbrev pub shape : Lexeme → Shape
shape w = record { kind = w.kind; bytes = told_bytes w.kind w.bytes }

abbrev pub ident : List ℕ → Shape
ident bytes = record { kind = Ident; bytes = bytes }

abbrev pub number : List ℕ → Shape
number bytes = record { kind = Number; bytes = bytes }

abbrev pub quoted : List ℕ → Shape
quoted bytes = record { kind = Quoted; bytes = bytes }

abbrev pub mark : Kind → Shape
mark kind = record { kind = kind; bytes = [] }

-- `[ digits ]`
abbrev pub in_brackets : List ℕ → List Shape
in_brackets digits = mark LeftBracket ∷ number digits ∷ mark RightBracket ∷ []

abbrev pub index_in : Option (List ℕ) → List Shape
index_in None = []
index_in (Some digits) = in_brackets digits

abbrev pub argument : Argument → List Shape
argument a = ident a.name ∷ index_in a.index

-- arguments, separated by commas
unfoldable pub arguments : List Argument → List Shape
arguments [] = []
arguments (a ∷ []) = argument a
arguments (a ∷ b ∷ args) = argument a ++ mark Comma ∷ arguments (b ∷ args)

-- a name as an argument
abbrev pub bare : List ℕ → Argument
bare name = record { name = name; index = None }

-- names, separated by commas
abbrev pub names : List (List ℕ) → List Shape
names list = arguments (map bare list)

-- `name ( angle )`
abbrev pub rotation : Rotation → List Shape
rotation r = ident r.name ∷ mark LeftParen ∷ (r.angle ++ mark RightParen ∷ [])

-- how each entry of a body is spelled
abbrev pub entry : Entry → List Shape
entry (Bar args) = (ident (codes "barrier") ∷ names args) ++ mark Semi ∷ []
entry (Call name args) = (ident name ∷ names args) ++ mark Semi ∷ []
entry (Spin r name) = (rotation r ++ ident name ∷ []) ++ mark Semi ∷ []

-- how each form is spelled
abbrev pub spelled : Form → List Shape
spelled (Include text) = (ident (codes "include") ∷ quoted text ∷ []) ++ mark Semi ∷ []
spelled (Qreg name size) = (ident (codes "qreg") ∷ ident name ∷ in_brackets size) ++ mark Semi ∷ []
spelled (Creg name size) = (ident (codes "creg") ∷ ident name ∷ in_brackets size) ++ mark Semi ∷ []
spelled (Barrier args) = (ident (codes "barrier") ∷ arguments args) ++ mark Semi ∷ []
spelled (Apply name args) = (ident name ∷ arguments args) ++ mark Semi ∷ []
spelled (Turn r a) = (rotation r ++ argument a) ++ mark Semi ∷ []
spelled (Define name list body) = (ident (codes "gate") ∷ ident name ∷ (names list ++ mark LeftBrace ∷ flat_map entry body)) ++ mark RightBrace ∷ []

abbrev pub IsArgument : Argument → Type 0
IsArgument a = IsTrue (is_free a.name) × IfSome a.index (λ digits. IsTrue (is_whole digits))

abbrev pub AreArguments : List Argument → Type 0
AreArguments args = (0 < length args) × AllByRecursion IsArgument args

abbrev pub AreNames : List (List ℕ) → Type 0
AreNames list = AreArguments (map bare list)

-- whether it is the name of a gate of an angle
abbrev pub is_rotation : List ℕ → Bool
is_rotation name = bytes_eq name (codes "u1") || bytes_eq name (codes "rz")

-- the symbols of an angle's tokens
abbrev pub symbols : List Shape → List Symbol
symbols ss = map (λ s. symbol s.kind s.bytes) ss

abbrev pub is_angle : AngleValue → Bool
is_angle (Eighths j) = true
is_angle Inexact = true
is_angle NotAngle = false

-- it has the name of a gate of an angle, and its tokens are an angle of this value
pub record IsRotation (r : Rotation) : Type 0 where
  pub name : IsTrue (is_rotation r.name)
  pub value : HasValue (symbols r.angle) r.value
  pub angle : IsTrue (is_angle r.value)

abbrev pub IsEntry : Entry → Type 0
IsEntry (Bar args) = AreNames args
IsEntry (Call name args) = IsTrue (is_free name) × AreNames args
IsEntry (Spin r name) = IsRotation r × IsTrue (is_free name)

-- its names aren't reserved, its digits have no point, and its arguments are one or more, as are a definition's names
abbrev pub HasParts : Form → Type 0
HasParts (Include text) = Unit {0}
HasParts (Qreg name size) = IsTrue (is_free name) × IsTrue (is_whole size)
HasParts (Creg name size) = IsTrue (is_free name) × IsTrue (is_whole size)
HasParts (Barrier args) = AreArguments args
HasParts (Apply name args) = IsTrue (is_free name) × AreArguments args
HasParts (Turn r a) = IsRotation r × IsArgument a
HasParts (Define name list body) = IsTrue (is_free name) × AreNames list × AllByRecursion IsEntry body

-- the lexemes are this form, spelled
abbrev pub IsForm : List Lexeme → Form → Type 0
IsForm ws f = (map shape ws ≡ spelled f) × HasParts f

-- the lexemes have this form, or none
abbrev pub HasForm : List Lexeme → Option Form → Type 0
HasForm ws o = MatchOption o ((f : Form) → IsForm ws f → ⊥) (λ f. IsForm ws f)
