-- The symbols of an angle: what each token is in one. Digits are a number without a point, of at most nine characters, which is
-- this project's own limit.
use Rattle.std.specs.Prelude.{ℕ, ◌+◌, ◌-◌, ◌*◌, Bool, ◌&&◌, List, length, codes, if◌then◌else◌, nat_le, fold}
use Rattle.std.specs.List.{list_all, slice_range}
use Rattle.std.specs.Str.{bytes_eq}
use Rattle.qasm_lex.specs.declared.token.Kind.{Kind}
use Rattle.qasm_lex.specs.declared.token.Kind.TheVariants.{Ident, Number, Quoted, Semi, Comma, LeftBracket, RightBracket, LeftBrace, RightBrace, LeftParen, RightParen, Other}
use Rattle.qasm_lex.specs.declared.token.Token.{Token}
use Rattle.qasm_lex.specs.Bytes.{is_digit}
use Rattle.qasm_angle.specs.declared.symbols.Symbol.{Symbol}
use Rattle.qasm_angle.specs.declared.symbols.Symbol.TheVariants.{Plus, Minus, Times, Over, Pi, Digits, Foreign}

-- the most characters of digits
abbrev pub most_digits : ℕ
most_digits = 9

-- the number that digits write
abbrev pub number : List ℕ → ℕ
number digits = fold (λ n b. n * 10 + (b - 48)) 0 digits

-- what a word is
abbrev pub word : List ℕ → Symbol
word bytes = if bytes_eq bytes (codes "pi") then Pi else Foreign

-- what a number is
abbrev pub figure : List ℕ → Symbol
figure bytes = if list_all is_digit bytes && nat_le (length bytes) most_digits then Digits (number bytes) else Foreign

-- what another mark is
abbrev pub mark : List ℕ → Symbol
mark bytes =
    if bytes_eq bytes (codes "+") then Plus
    else if bytes_eq bytes (codes "-") then Minus
    else if bytes_eq bytes (codes "*") then Times
    else if bytes_eq bytes (codes "/") then Over
    else Foreign

-- what a token of this kind with these bytes is
unfoldable pub symbol : Kind → List ℕ → Symbol
symbol Ident bytes = word bytes
symbol Number bytes = figure bytes
symbol Quoted bytes = Foreign
symbol Semi bytes = Foreign
symbol Comma bytes = Foreign
symbol LeftBracket bytes = Foreign
symbol RightBracket bytes = Foreign
symbol LeftBrace bytes = Foreign
symbol RightBrace bytes = Foreign
symbol LeftParen bytes = Foreign
symbol RightParen bytes = Foreign
symbol Other bytes = mark bytes

-- what a token of the text is
abbrev pub symbol_of : List ℕ → Token → Symbol
symbol_of text t = symbol t.kind (slice_range text t.start t.end)
