-- Tests of lexemes, and what they say of the shapes.
use Rattle.std.proofs.Common.{◌≡◌, ℕ, true, false, ◌&&◌, ◌==◌, List, [], arith, ap, ◌∙◌, sym, refl, if◌then◌else◌}
use Rattle.std.specs.Str.{bytes_eq}
use Rattle.std.proofs.lemmas.Bool.{and_parts, and_from, and_right, eqb-true}
use Rattle.std.proofs.lemmas.Slice.Eq.{bytes_eq-Decides}
use Rattle.qasm_lex.specs.declared.token.Kind.{Kind}
use Rattle.qasm_lex.specs.declared.token.Kind.TheVariants.{Ident, Number, Quoted, Semi, Comma, LeftBracket, RightBracket, LeftBrace, RightBrace, LeftParen, RightParen, Other}
use Rattle.qasm_reader.specs.Lexemes.{Lexeme, code_of, is_kind, is_ident, is_free, is_whole, is_name, is_digits}
use Rattle.qasm_reader.specs.Forms.{Shape, told_bytes, shape, ident, number, quoted, mark}

-- the kind of a number
kind_with : ℕ → Kind
kind_with n = if n == 0 then Ident else if n == 1 then Number else if n == 2 then Quoted else if n == 3 then Semi else if n == 4 then Comma
    else if n == 5 then LeftBracket else if n == 6 then RightBracket else if n == 7 then LeftBrace else if n == 8 then RightBrace
    else if n == 9 then LeftParen else if n == 10 then RightParen else Other

-- a kind is that of its number
back : (k : Kind) → kind_with (code_of k) ≡ k
unfolding kind_with
back Ident = refl
back Number = refl
back Quoted = refl
back Semi = refl
back Comma = refl
back LeftBracket = refl
back RightBracket = refl
back LeftBrace = refl
back RightBrace = refl
back LeftParen = refl
back RightParen = refl
back Other = refl

-- kinds with one number are one
pub same_kind : (k l : Kind) → (code_of k == code_of l) ≡ true → k ≡ l
same_kind k l e = sym (back k) ∙ ap kind_with (eqb-true _ _ e) ∙ back l

-- a number is equal to itself
itself : (n : ℕ) → (n == n) ≡ true
itself n = grind arith

-- a lexeme that passes the test has the kind
pub kind_from : (w : Lexeme) (k : Kind) → is_kind k w ≡ true → w.kind ≡ k
kind_from w k e = same_kind w.kind k e

-- a lexeme of the kind passes the test
pub kind_to : (w : Lexeme) (k : Kind) → w.kind ≡ k → is_kind k w ≡ true
kind_to w k e = ap (λ (x : Kind). code_of x == code_of k) e ∙ itself (code_of k)

-- what is told of a lexeme of a kind
told : (w : Lexeme) (k : Kind) (b : List ℕ) → w.kind ≡ k → told_bytes k w.bytes ≡ b → shape w ≡ record { kind = k; bytes = b }
told w k b e f =
    let g : told_bytes w.kind w.bytes ≡ b = ap (λ (x : Kind). told_bytes x w.bytes) e ∙ f in
    λ i. record { kind = e i; bytes = g i }

-- what a shape tells
told_back : (w : Lexeme) (k : Kind) (b : List ℕ) → shape w ≡ record { kind = k; bytes = b } → (w.kind ≡ k) × (told_bytes k w.bytes ≡ b)
told_back w k b e =
    let kind : w.kind ≡ k = ap (λ (s : Shape). s.kind) e in
    (kind, sym (ap (λ (x : Kind). told_bytes x w.bytes) kind) ∙ ap (λ (s : Shape). s.bytes) e)

-- the tests of lexemes, and the shapes that pass them
pub to_mark : (w : Lexeme) (k : Kind) → told_bytes k w.bytes ≡ [] → is_kind k w ≡ true → shape w ≡ mark k
to_mark w k f e = told w k [] (kind_from w k e) f

-- a lexeme with the shape of a mark is one
pub from_mark : (w : Lexeme) (k : Kind) → shape w ≡ mark k → is_kind k w ≡ true
from_mark w k e = kind_to w k (told_back w k [] e).0

-- a quoted text has the shape of one
pub to_quoted : (w : Lexeme) → is_kind Quoted w ≡ true → shape w ≡ quoted w.bytes
to_quoted w e = told w Quoted w.bytes (kind_from w Quoted e) refl

-- a lexeme with the shape of a quoted text is one
pub from_quoted : (w : Lexeme) (b : List ℕ) → shape w ≡ quoted b → (is_kind Quoted w ≡ true) × (w.bytes ≡ b)
from_quoted w b e = let t = told_back w Quoted b e in (kind_to w Quoted t.0, t.1)

-- an Ident has the shape of one
pub to_ident : (w : Lexeme) (b : List ℕ) → is_ident b w ≡ true → shape w ≡ ident b
to_ident w b e =
    let parts = and_parts (is_kind Ident w) _ e in
    told w Ident b (kind_from w Ident parts.0) ((bytes_eq-Decides w.bytes b).0 parts.1)

-- a lexeme with the shape of an Ident is one
pub from_ident : (w : Lexeme) (b : List ℕ) → shape w ≡ ident b → is_ident b w ≡ true
from_ident w b e =
    let t = told_back w Ident b e in
    and_from _ _ (kind_to w Ident t.0) ((bytes_eq-Decides w.bytes b).1 t.1)

-- a name has the shape of an Ident
pub to_name : (w : Lexeme) → is_name w ≡ true → (shape w ≡ ident w.bytes) × (is_free w.bytes ≡ true)
to_name w e = let parts = and_parts (is_kind Ident w) _ e in (told w Ident w.bytes (kind_from w Ident parts.0) refl, parts.1)

-- a lexeme with the shape of an Ident that is free is a name
pub from_name : (w : Lexeme) (b : List ℕ) → shape w ≡ ident b → is_free b ≡ true → (is_name w ≡ true) × (w.bytes ≡ b)
from_name w b e f =
    let t = told_back w Ident b e in
    (and_from _ _ (kind_to w Ident t.0) (ap is_free t.1 ∙ f), t.1)

-- digits have the shape of a Number
pub to_digits : (w : Lexeme) → is_digits w ≡ true → (shape w ≡ number w.bytes) × (is_whole w.bytes ≡ true)
to_digits w e = let parts = and_parts (is_kind Number w) _ e in (told w Number w.bytes (kind_from w Number parts.0) refl, parts.1)

-- a lexeme with the shape of a Number without a point is digits
pub from_digits : (w : Lexeme) (b : List ℕ) → shape w ≡ number b → is_whole b ≡ true → (is_digits w ≡ true) × (w.bytes ≡ b)
from_digits w b e f =
    let t = told_back w Number b e in
    (and_from _ _ (kind_to w Number t.0) (ap is_whole t.1 ∙ f), t.1)

-- an ident is no name of another lexeme
pub not_ident : (w : Lexeme) (b c : List ℕ) → shape w ≡ ident b → bytes_eq b c ≡ false → is_ident c w ≡ false
not_ident w b c e n =
    let t = told_back w Ident b e in
    and_right _ _ (ap (λ (x : List ℕ). bytes_eq x c) t.1 ∙ n)

pub not_kind : (w : Lexeme) (k l : Kind) (b : List ℕ) → shape w ≡ record { kind = k; bytes = b } → (code_of k == code_of l) ≡ false → is_kind l w ≡ false
not_kind w k l b e n = ap (λ (x : Kind). code_of x == code_of l) (told_back w k b e).0 ∙ n

-- a Number has the shape of one
pub to_number : (w : Lexeme) (b : List ℕ) → (is_kind Number w && bytes_eq w.bytes b) ≡ true → shape w ≡ number b
to_number w b e =
    let parts = and_parts (is_kind Number w) _ e in
    told w Number b (kind_from w Number parts.0) ((bytes_eq-Decides w.bytes b).0 parts.1)

-- a lexeme with the shape of a Number is one
pub from_number : (w : Lexeme) (b : List ℕ) → shape w ≡ number b → (is_kind Number w && bytes_eq w.bytes b) ≡ true
from_number w b e =
    let t = told_back w Number b e in
    and_from _ _ (kind_to w Number t.0) ((bytes_eq-Decides w.bytes b).1 t.1)
