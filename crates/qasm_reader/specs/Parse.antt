-- The form of a statement, the length of the first statement and what is behind the header, as the code takes them: one
-- function for each step. The public clauses say nothing of them.
use Rattle.std.specs.Prelude.{ℕ, ◌+◌, ◌&&◌, Bool, false, List, [], ◌∷◌, map, take, drop, codes, Option, Some, None, if◌then◌else◌, option_map, option_and_then}
use Rattle.std.specs.List.{slice_split, position_or_len}
use Rattle.std.specs.Str.{bytes_eq}
use Rattle.qasm_lex.specs.declared.token.Kind.{Kind}
use Rattle.qasm_lex.specs.declared.token.Kind.TheVariants.{Number, Quoted, Semi, Comma, LeftBracket, RightBracket, LeftBrace, LeftParen, RightParen}
use Rattle.qasm_lex.specs.declared.token.Token.{Token}
use Rattle.qasm_reader.specs.Lexemes.{Lexeme, lexeme_of, is_same_kind, is_kind, is_ident, is_name, is_digits, closer}
use Rattle.qasm_angle.specs.Steps.{value_of}
use Rattle.qasm_reader.specs.Forms.{Argument, Shape, shape, Rotation, is_rotation, symbols, is_angle, Entry, Bar, Call, Spin, Form, Include, Qreg, Creg, Barrier, Apply, Turn, Define}

-- the lexemes without one of the kind at their end
unfoldable pub without_last : Kind → List Lexeme → Option (List Lexeme)
without_last kind [] = None
without_last kind (w ∷ []) = if is_kind kind w then Some [] else None
without_last kind (w ∷ v ∷ ws) = option_map (λ b. w ∷ b) (without_last kind (v ∷ ws))

-- the lexemes without their closer at their end
unfoldable pub body_of : List Lexeme → Option (List Lexeme)
body_of [] = None
body_of (w ∷ ws) = without_last (closer w) (w ∷ ws)

-- `name [ digits ]`
unfoldable pub indexed_at : List Lexeme → Option (List ℕ × List ℕ)
indexed_at (n ∷ o ∷ d ∷ c ∷ []) =
    if is_name n && (is_kind LeftBracket o && (is_digits d && is_kind RightBracket c)) then Some (n.bytes, d.bytes) else None
indexed_at other = None

abbrev pub indexed_argument : List ℕ × List ℕ → Argument
indexed_argument x = record { name = x.0; index = Some x.1 }

unfoldable pub argument_at : List Lexeme → Option Argument
argument_at [] = None
argument_at (n ∷ []) = if is_name n then Some (record { name = n.bytes; index = None }) else None
argument_at (n ∷ o ∷ ws) = option_map indexed_argument (indexed_at (n ∷ o ∷ ws))

abbrev pub consed : {A : Type 0} → Option A → Option (List A) → Option (List A)
consed None rest = None
consed (Some x) None = None
consed (Some x) (Some xs) = Some (x ∷ xs)

abbrev pub all_some : {A : Type 0} → List (Option A) → Option (List A)
all_some [] = Some []
all_some (o ∷ os) = consed o (all_some os)

-- arguments between commas
unfoldable pub arguments_at : List Lexeme → Option (List Argument)
arguments_at ws = all_some (map argument_at (slice_split (is_kind Comma) ws))

abbrev pub bare_name : Argument → Option (List ℕ)
bare_name a = elim a.index [ None ↦ Some a.name | Some digits ↦ None ]

-- the names of arguments, if none has an index
unfoldable pub names_of : List Argument → Option (List (List ℕ))
names_of args = all_some (map bare_name args)

-- names between commas
unfoldable pub names_at : List Lexeme → Option (List (List ℕ))
names_at ws = option_and_then names_of (arguments_at ws)

abbrev pub both : {A B C : Type 0} → (A → B → C) → Option A → Option B → Option C
both f None y = None
both f (Some x) None = None
both f (Some x) (Some y) = Some (f x y)

-- the front, and what is behind the first lexeme of the rest
abbrev pub around_first : List Lexeme → List Lexeme → Option (List Lexeme × List Lexeme)
around_first front [] = None
around_first front (w ∷ rest) = Some (front, rest)

-- what is in parentheses, and what is behind them
unfoldable pub in_parens : List Lexeme → Option (List Lexeme × List Lexeme)
in_parens [] = None
in_parens (o ∷ ws) =
    let size = position_or_len (is_kind RightParen) ws in
    if is_kind LeftParen o then around_first (take size ws) (drop size ws) else None

abbrev pub rotation_with : List ℕ → List Shape → Rotation
rotation_with name angle = record { name = name; angle = angle; value = value_of (symbols angle) }

-- the gate of an angle that a name and the tokens of its angle are
unfoldable pub rotation_of : List ℕ → List Lexeme → Option Rotation
rotation_of name ws =
    let r = rotation_with name (map shape ws) in
    if is_rotation name && is_angle r.value then Some r else None

-- a name alone
unfoldable pub name_at : List Lexeme → Option (List ℕ)
name_at (w ∷ []) = if is_name w then Some w.bytes else None
name_at other = None

abbrev pub spin_in : List ℕ → Option (List Lexeme × List Lexeme) → Option Entry
spin_in name None = None
spin_in name (Some x) = both Spin (rotation_of name x.0) (name_at x.1)

abbrev pub turn_in : List ℕ → Option (List Lexeme × List Lexeme) → Option Form
turn_in name None = None
turn_in name (Some x) = both Turn (rotation_of name x.0) (argument_at x.1)

-- whether a parenthesis stands first
unfoldable pub opens : List Lexeme → Bool
opens [] = false
opens (w ∷ ws) = is_kind LeftParen w

-- an entry behind a name
unfoldable pub call_at : List ℕ → List Lexeme → Option Entry
call_at name ws = if opens ws then spin_in name (in_parens ws) else option_map (Call name) (names_at ws)

-- a form behind a name
unfoldable pub gate_at : List ℕ → List Lexeme → Option Form
gate_at name ws = if opens ws then turn_in name (in_parens ws) else option_map (Apply name) (arguments_at ws)

-- an entry of a body, without its Semi
unfoldable pub entry_at : List Lexeme → Option Entry
entry_at [] = None
entry_at (w ∷ ws) =
    if is_ident (codes "barrier") w then option_map Bar (names_at ws)
    else if is_name w then call_at w.bytes ws
    else None

-- the entries of the parts behind each of which a Semi stands, but for the last part, which is empty
abbrev pub entries_in : List (List Lexeme) → Option (List Entry)
entries_in [] = None
entries_in ([] ∷ []) = Some []
entries_in ((w ∷ ws) ∷ []) = None
entries_in (p ∷ q ∷ ps) = consed (entry_at p) (entries_in (q ∷ ps))

-- the entries of a body
unfoldable pub entries_at : List Lexeme → Option (List Entry)
entries_at ws = entries_in (slice_split (is_kind Semi) ws)

abbrev pub entries_behind : List Lexeme → Option (List Entry)
entries_behind [] = None
entries_behind (brace ∷ ws) = entries_at ws

-- the definition behind its word
unfoldable pub definition_at : List Lexeme → Option Form
definition_at [] = None
definition_at (n ∷ ws) =
    let size = position_or_len (is_kind LeftBrace) ws in
    if is_name n then both (Define n.bytes) (names_at (take size ws)) (entries_behind (drop size ws)) else None

unfoldable pub include_at : List Lexeme → Option Form
include_at (q ∷ []) = if is_kind Quoted q then Some (Include q.bytes) else None
include_at other = None

unfoldable pub form_behind : Lexeme → List Lexeme → Option Form
form_behind w ws =
    if is_ident (codes "include") w then include_at ws
    else if is_ident (codes "qreg") w then option_map (λ x. Qreg x.0 x.1) (indexed_at ws)
    else if is_ident (codes "creg") w then option_map (λ x. Creg x.0 x.1) (indexed_at ws)
    else if is_ident (codes "gate") w then definition_at ws
    else if is_ident (codes "barrier") w then option_map Barrier (arguments_at ws)
    else if is_name w then gate_at w.bytes ws
    else None

unfoldable pub form_in : List Lexeme → Option Form
form_in [] = None
form_in (w ∷ ws) = form_behind w ws

unfoldable pub form_of : List Lexeme → Option Form
form_of ws = option_and_then form_in (body_of ws)

-- what is behind the header, if it is there
unfoldable pub headed_at : List Lexeme → Option (List Lexeme)
headed_at (a ∷ b ∷ c ∷ ws) =
    if is_ident (codes "OPENQASM") a && ((is_kind Number b && bytes_eq b.bytes (codes "2.0")) && is_kind Semi c) then Some ws else None
headed_at other = None

-- how many tokens there are up to the first of the kind, with it, or all of them
abbrev pub len_up_to : Kind → List Token → ℕ
len_up_to kind [] = 0
len_up_to kind (t ∷ ts) = if is_same_kind kind t.kind then 1 else 1 + len_up_to kind ts

-- how many tokens of the text the first statement has
abbrev pub first_len : List ℕ → List Token → ℕ
first_len text [] = 0
first_len text (t ∷ ts) = len_up_to (closer (lexeme_of text t)) (t ∷ ts)
