-- The bytes of each kind of token: the lexical grammar of OpenQASM 2.0 (Cross, Bishop, Smolin and Gambetta, 2017).
-- Two things differ from it. A name may begin with any ASCII letter or `_`, where the standard asks for a small letter.
-- A number has no exponent, and has digits on both sides of its point.
use Rattle.std.specs.Prelude.{ℕ, Bool, true, false, ◌&&◌, ◌||◌, not, List, [], ◌∷◌, ◌==◌, codes}
use Rattle.std.specs.List.{list_all, list_any}
use Rattle.std.specs.Char.{is_ascii_digit, is_ascii_alphabetic}
use Rattle.qasm_lex.specs.declared.token.Kind.{Kind}
use Rattle.qasm_lex.specs.declared.token.Kind.TheVariants.{Ident, Number, Quoted, Semi, Comma, LeftBracket, RightBracket, LeftBrace, RightBrace, LeftParen, RightParen, Other}

abbrev pub is_digit : ℕ → Bool
is_digit b = is_ascii_digit b

-- an ASCII letter or `_`
abbrev pub is_name_start : ℕ → Bool
is_name_start b = is_ascii_alphabetic b || (b == 95)

-- an ASCII letter, a digit or `_`
abbrev pub is_name_byte : ℕ → Bool
is_name_byte b = is_name_start b || is_digit b

-- any byte but `"` and line feed
abbrev pub is_plain : ℕ → Bool
is_plain b = not (b == 34) && not (b == 10)

-- a letter or `_`, then letters, digits and `_`
unfoldable pub is_name : List ℕ → Bool
is_name [] = false
is_name (b ∷ bs) = is_name_start b && list_all is_name_byte bs

-- one or more digits
unfoldable pub are_digits : List ℕ → Bool
are_digits [] = false
are_digits (b ∷ bs) = is_digit b && list_all is_digit bs

-- what may stand behind a digit of a number: more digits, then optionally `.` and one or more digits
unfoldable pub ends_number : List ℕ → Bool
ends_number [] = true
ends_number (b ∷ bs) = (is_digit b && ends_number bs) || ((b == 46) && are_digits bs)

-- one or more digits, then optionally `.` and one or more digits
unfoldable pub is_number : List ℕ → Bool
is_number [] = false
is_number (b ∷ bs) = is_digit b && ends_number bs

-- plain bytes, then a `"` at the end
unfoldable pub ends_quoted : List ℕ → Bool
ends_quoted [] = false
ends_quoted (b ∷ []) = b == 34
ends_quoted (b ∷ c ∷ bs) = is_plain b && ends_quoted (c ∷ bs)

-- a `"`, plain bytes, a `"`
unfoldable pub is_quoted : List ℕ → Bool
is_quoted [] = false
is_quoted (b ∷ bs) = (b == 34) && ends_quoted bs

-- one byte, which is one of the marks
unfoldable pub is_mark : List ℕ → List ℕ → Bool
is_mark marks [] = false
is_mark marks (b ∷ []) = list_any (λ m. b == m) marks
is_mark marks (b ∷ c ∷ bs) = false

-- the table of tokens: whether the bytes are a token of the kind
unfoldable pub is_token : Kind → List ℕ → Bool
is_token Ident bs = is_name bs
is_token Number bs = is_number bs
is_token Quoted bs = is_quoted bs
is_token Semi bs = is_mark (codes ";") bs
is_token Comma bs = is_mark (codes ",") bs
is_token LeftBracket bs = is_mark (codes "[") bs
is_token RightBracket bs = is_mark (codes "]") bs
is_token LeftBrace bs = is_mark (codes "{") bs
is_token RightBrace bs = is_mark (codes "}") bs
is_token LeftParen bs = is_mark (codes "(") bs
is_token RightParen bs = is_mark (codes ")") bs
is_token Other bs = is_mark (codes "+-*/^>=.") bs
