-- The lexemes of a text, which are its tokens with their bytes, and the statements into which they are cut.
-- Source: OpenQASM 2.0 (Cross, Bishop, Smolin and Gambetta, 2017). Names may be the words sin, cos, tan, exp, ln and sqrt,
-- which the standard keeps for itself.
use Rattle.std.specs.Prelude.{ℕ, ◌≤◌, Bool, ◌&&◌, ◌==◌, not, List, [], ◌∷◌, ◌++◌, length, codes, if◌then◌else◌}
use Rattle.std.specs.List.{list_any, list_all, slice_range}
use Rattle.std.specs.Str.{bytes_eq}
use Rattle.qasm_lex.specs.declared.token.Kind.{Kind}
use Rattle.qasm_lex.specs.declared.token.Kind.TheVariants.{Ident, Number, Quoted, Semi, Comma, LeftBracket, RightBracket, LeftBrace, RightBrace, LeftParen, RightParen, Other}
use Rattle.qasm_lex.specs.declared.token.Token.{Token}
use Rattle.qasm_lex.specs.Bytes.{is_digit}

-- a token: its kind, its bytes, and the place in the text where it begins
pub record Lexeme : Type 0 where
  pub kind : Kind
  pub bytes : List ℕ
  pub place : ℕ

abbrev pub lexeme_of : List ℕ → Token → Lexeme
lexeme_of text t = record { kind = t.kind; bytes = slice_range text t.start t.end; place = t.start }

-- a number for each kind, to tell them apart
abbrev pub code_of : Kind → ℕ
code_of Ident = 0
code_of Number = 1
code_of Quoted = 2
code_of Semi = 3
code_of Comma = 4
code_of LeftBracket = 5
code_of RightBracket = 6
code_of LeftBrace = 7
code_of RightBrace = 8
code_of LeftParen = 9
code_of RightParen = 10
code_of Other = 11

abbrev pub is_same_kind : Kind → Kind → Bool
is_same_kind kind other = code_of other == code_of kind

abbrev pub is_kind : Kind → Lexeme → Bool
is_kind kind w = is_same_kind kind w.kind

-- whether it is the Ident with these bytes
abbrev pub is_ident : List ℕ → Lexeme → Bool
is_ident text w = is_kind Ident w && bytes_eq w.bytes text

-- the reserved words, which are no names
abbrev pub reserved : List (List ℕ)
reserved = codes "OPENQASM" ∷ codes "include" ∷ codes "qreg" ∷ codes "creg" ∷ codes "barrier" ∷ codes "measure" ∷ codes "reset"
    ∷ codes "if" ∷ codes "opaque" ∷ codes "gate" ∷ codes "U" ∷ codes "CX" ∷ codes "pi" ∷ []

unfoldable pub is_reserved : List ℕ → Bool
is_reserved bytes = list_any (λ r. bytes_eq bytes r) reserved

-- whether the bytes of an Ident are those of a name
abbrev pub is_free : List ℕ → Bool
is_free bytes = not (is_reserved bytes)

-- whether the bytes of a Number have no point
abbrev pub is_whole : List ℕ → Bool
is_whole bytes = list_all is_digit bytes

abbrev pub is_name : Lexeme → Bool
is_name w = is_kind Ident w && is_free w.bytes

abbrev pub is_digits : Lexeme → Bool
is_digits w = is_kind Number w && is_whole w.bytes

-- the kind of the token that ends a statement with this first token: `}` for a definition of a gate, and else `;`
abbrev pub closer : Lexeme → Kind
closer first = if is_ident (codes "gate") first then RightBrace else Semi

-- whether the lexeme behind the beginning of a statement ends it
abbrev pub closes : List Lexeme → Lexeme → Bool
closes [] w = is_kind (closer w) w
closes (first ∷ more) w = is_kind (closer first) w

-- the statements of `begun ++ ws`, cut behind each token of ws that ends one, where begun is the beginning of the first of them
unfoldable pub cut_behind : List Lexeme → List Lexeme → List (List Lexeme)
cut_behind [] [] = []
cut_behind (v ∷ vs) [] = (v ∷ vs) ∷ []
cut_behind begun (w ∷ ws) = if closes begun w then (begun ++ w ∷ []) ∷ cut_behind [] ws else cut_behind (begun ++ w ∷ []) ws

-- the statements: each up to the token that ends it, and what stands behind the last such token, if anything does
abbrev pub statements : List Lexeme → List (List Lexeme)
statements ws = cut_behind [] ws
