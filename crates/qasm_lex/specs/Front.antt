-- The kind and the length of the longest token at the front, and the length of what is skipped there, as the code takes
-- them: one function for each step. The public clauses say nothing of them.
use Rattle.std.specs.Prelude.{ℕ, ◌+◌, ◌==◌, ◌&&◌, List, [], ◌∷◌, if◌then◌else◌, Option, Some, None, nat_lt, option_and_then, slice_index, codes, nat_eq}
use Rattle.std.specs.List.{prefix_len, position_or_len, list_any, starts_with}
use Rattle.qasm_lex.specs.declared.token.Kind.{Kind}
use Rattle.qasm_lex.specs.declared.token.Kind.TheVariants.{Ident, Number, Quoted, Semi, Comma, LeftBracket, RightBracket, LeftBrace, RightBrace, LeftParen, RightParen, Other}
use Rattle.qasm_lex.specs.Tokens.{is_blank}
use Rattle.qasm_lex.specs.Bytes.{is_name_start, is_name_byte, is_digit, is_plain}

-- the kind of the tokens that begin with the byte
unfoldable pub kind_at : ℕ → Option Kind
kind_at b =
    if is_name_start b then Some Ident
    else if is_digit b then Some Number
    else if b == 34 then Some Quoted
    else if b == 59 then Some Semi
    else if b == 44 then Some Comma
    else if b == 91 then Some LeftBracket
    else if b == 93 then Some RightBracket
    else if b == 123 then Some LeftBrace
    else if b == 125 then Some RightBrace
    else if b == 40 then Some LeftParen
    else if b == 41 then Some RightParen
    else if list_any (λ m. b == m) (codes "+-*/^>=.") then Some Other
    else None

infixl 10 ◌>>=◌
abbrev pub ◌>>=◌ : {A B : Type 0} → Option A → (A → Option B) → Option B
o >>= f = option_and_then f o

-- a point and digits at the front
unfoldable pub fraction_len : List ℕ → ℕ
fraction_len [] = 0
fraction_len (b ∷ bs) = if (b == 46) && nat_lt 0 (prefix_len is_digit bs) then 1 + prefix_len is_digit bs else 0

-- digits at the front, and a fraction behind them
unfoldable pub number_rest : List ℕ → ℕ
number_rest [] = 0
number_rest (b ∷ bs) = if is_digit b then 1 + number_rest bs else fraction_len (b ∷ bs)

-- plain bytes and a `"`
unfoldable pub closed_len : List ℕ → Option ℕ
closed_len bs = let n = prefix_len is_plain bs in if slice_index bs n == 34 then Some (n + 1) else None

-- how many bytes a token of the kind has behind its first
unfoldable pub rest_len : Kind → List ℕ → Option ℕ
rest_len Ident bs = Some (prefix_len is_name_byte bs)
rest_len Number bs = Some (number_rest bs)
rest_len Quoted bs = closed_len bs
rest_len Semi bs = Some 0
rest_len Comma bs = Some 0
rest_len LeftBracket bs = Some 0
rest_len RightBracket bs = Some 0
rest_len LeftBrace bs = Some 0
rest_len RightBrace bs = Some 0
rest_len LeftParen bs = Some 0
rest_len RightParen bs = Some 0
rest_len Other bs = Some 0

-- the kind and the length of the longest token at the front
unfoldable pub front : List ℕ → Option (Kind × ℕ)
front [] = None
front (b ∷ bs) = do
  kind ← kind_at b
  n ← rest_len kind bs
  Some (kind, 1 + n)

-- the length of the blank or the comment at the front
unfoldable pub skip_len : List ℕ → ℕ
skip_len [] = 0
skip_len (b ∷ bs) =
    if is_blank b then 1
    else if starts_with nat_eq (b ∷ bs) (codes "//") then position_or_len (λ c. c == 10) (b ∷ bs)
    else 0
