-- Where a text of two programs, one after the other, is cut: each program begins with the Ident `OPENQASM`.
-- That two programs stand in one text is this project's own.
use Rattle.std.specs.Prelude.{◌≡◌, ◌≢◌, ℕ, List, [], ◌∷◌, length, codes, Option, Some, None, filter}
use Rattle.qasm_lex.specs.Tokens.{Bad}
use Rattle.qasm_reader.specs.declared.fault.ReadFault.{ReadFault}
use Rattle.qasm_reader.specs.declared.fault.ReadFault.TheVariants.{Refused as Refusing, Memory}
use Rattle.qasm_reader.specs.declared.refusal.Refusal.TheVariants.{BadByte}
use Rattle.qasm_reader.specs.Lexemes.{Lexeme, is_ident}
use Rattle.qasm_reader.specs.Refusals.{number_of}
use Rattle.qasm_reader.specs.Read.{HasLexemes}

-- the Ident tokens `OPENQASM` among the lexemes
abbrev pub openings : List Lexeme → List Lexeme
openings ws = filter (is_ident (codes "OPENQASM")) ws

-- no byte of the text is bad, it has exactly two Ident tokens `OPENQASM`, and the second begins at the place
pub record HasHalves (text : List ℕ) (place : ℕ) : Type 0 where
  pub lexemes : List Lexeme
  pub has : HasLexemes text lexemes
  pub first : Lexeme
  pub second : Lexeme
  pub two : openings lexemes ≡ first ∷ second ∷ []
  pub starts : place ≡ second.place

-- no byte of the text is bad, and it has another number of Ident tokens `OPENQASM` than two
pub record HasNoHalves (text : List ℕ) : Type 0 where
  pub lexemes : List Lexeme
  pub has : HasLexemes text lexemes
  pub other : length (openings lexemes) ≢ 2

-- the place where the second half begins, if the text has two
abbrev pub AreHalves : List ℕ → Option ℕ → Type 0
AreHalves text (Some place) = HasHalves text place
AreHalves text None = HasNoHalves text

-- the fault is the text's first bad byte, or want of memory, of which nothing is said
abbrev pub IsBadByte : List ℕ → ReadFault → Type 0
IsBadByte text (Refusing number place) = (number ≡ number_of BadByte) × Bad text place
IsBadByte text Memory = Unit {0}
