-- What a text reads as: a circuit, or the first reason for which it is refused, with its place.
use Rattle.std.specs.Prelude.{◌≡◌, ℕ, ◌<◌, List, [], ◌∷◌, ◌++◌, length, map, codes, Option, Some, None, Result, Ok, Err}
use Rattle.std.specs.List.{AllByRecursion}
use Rattle.qasm_lex.specs.declared.token.Kind.TheVariants.{Semi}
use Rattle.qasm_lex.specs.declared.token.Token.{Token}
use Rattle.qasm_lex.specs.Tokens.{Tokens, Bad}
use Rattle.tc_circuit.specs.Circuit.{Gates}
use Rattle.qasm_reader.specs.declared.fault.ReadFault.{ReadFault}
use Rattle.qasm_reader.specs.declared.fault.ReadFault.TheVariants.{Refused as Refusing, Memory}
use Rattle.qasm_reader.specs.declared.refusal.Refusal.{Refusal}
use Rattle.qasm_reader.specs.declared.refusal.Refusal.TheVariants.{Header, BadByte, Qubits}
use Rattle.qasm_reader.specs.Lexemes.{Lexeme, lexeme_of, statements}
use Rattle.qasm_reader.specs.Forms.{Shape, shape, ident, number, mark, HasForm}
use Rattle.qasm_reader.specs.State.{State, start, after}
use Rattle.qasm_reader.specs.Refusals.{number_of}
use Rattle.qasm_reader.specs.Rows.{Statement, row_of}

-- `OPENQASM 2.0;`
abbrev pub header : List Shape
header = ident (codes "OPENQASM") ∷ number (codes "2.0") ∷ mark Semi ∷ []

-- the lexemes are a header and these
abbrev pub IsHeaded : List Lexeme → List Lexeme → Type 0
IsHeaded ws rest = (head : List Lexeme) × (ws ≡ head ++ rest) × (map shape head ≡ header)

-- where the first lexeme begins, or the given end where there is none
abbrev pub place_of : ℕ → List Lexeme → ℕ
place_of end [] = end
place_of end (w ∷ ws) = w.place

-- these are the statements of the lexemes, each with its form
pub record AreStatements (rest : List Lexeme) (ps : List Statement) : Type 0 where
  pub cut : map (λ p. p.lexemes) ps ≡ statements rest
  pub forms : AllByRecursion (λ p. HasForm p.lexemes p.form) ps

-- why a statement refuses its text, and the place of its first token
pub record Refuser : Type 0 where
  pub refusal : Refusal
  pub place : ℕ

-- the refusal where a row applies, else the rest
abbrev pub refused_or : Option Refusal → ℕ → Result State Refuser → Result State Refuser
refused_or None place rest = rest
refused_or (Some refusal) place rest = Err (record { refusal = refusal; place = place })

-- what holds behind all statements; or the first of them to which a row applies
abbrev pub scan : State → List Statement → Result State Refuser
scan s [] = Ok s
scan s (p ∷ ps) = refused_or (row_of s p) (place_of 0 p.lexemes) (scan (after s p.form) ps)

-- no byte of the text is bad, and these are its lexemes
abbrev pub HasLexemes : List ℕ → List Lexeme → Type 0
HasLexemes text ws = (ts : List Token) × Tokens text ts × (ws ≡ map (lexeme_of text) ts)

-- no byte of the text is bad, it has a header, and these are the statements behind it
pub record HasStatements (text : List ℕ) (ps : List Statement) : Type 0 where
  pub lexemes : List Lexeme
  pub has : HasLexemes text lexemes
  pub rest : List Lexeme
  pub headed : IsHeaded lexemes rest
  pub statements : AreStatements rest ps

-- the text reads as the circuit: no row applies to any of its statements, it declares a qubit, and the circuit is that of the
-- gates of all statements, joined in order, on all qubits
pub record Reads (text : List ℕ) (c : Gates) : Type 0 where
  pub list : List Statement
  pub are : HasStatements text list
  pub state : State
  pub unrefused : scan start list ≡ Ok state
  pub some : 0 < c.qubits
  pub qubits : c.qubits ≡ state.qubits
  pub gates : c.gates ≡ state.gates

-- the text is refused for the reason at the place: a byte is bad; or no byte is, and there is no header; or there is one, and a
-- row applies to a statement, the first such statement being the one; or none applies, and there is no qubit
pub data RefusedFor (text : List ℕ) (why : Refusal) (place : ℕ) : Type 0 where
  IsBad : Bad text place → why ≡ BadByte → RefusedFor text why place
  IsHeadless : (ws : List Lexeme) → HasLexemes text ws → ((rest : List Lexeme) → IsHeaded ws rest → ⊥) → why ≡ Header → place ≡ place_of (length text) ws → RefusedFor text why place
  IsRefused : (ps : List Statement) → HasStatements text ps → scan start ps ≡ Err (record { refusal = why; place = place }) → RefusedFor text why place
  IsEmpty : (ps : List Statement) → HasStatements text ps → (s : State) → scan start ps ≡ Ok s → s.qubits ≡ 0 → why ≡ Qubits → place ≡ length text → RefusedFor text why place

-- the text is refused with the number at the place
abbrev pub Refused : List ℕ → ℕ → ℕ → Type 0
Refused text number place = (why : Refusal) × RefusedFor text why place × (number ≡ number_of why)

-- the fault is the text's: its refusal, or want of memory, of which nothing is said
abbrev pub IsFault : List ℕ → ReadFault → Type 0
IsFault text (Refusing number place) = Refused text number place
IsFault text Memory = Unit {0}
