-- The first byte of a token tells its kind.
use Rattle.std.proofs.Common.{◌≡◌, ℕ, Bool, true, false, cond, ◌||◌, ◌==◌, List, [], ◌∷◌, Option, Some, None, arith, ap, sym, refl, subst, ⊎_elim}
use Rattle.std.specs.Prelude.{codes}
use Rattle.std.specs.List.{list_any}
use Rattle.std.proofs.lemmas.Bool.{and_parts, or_cases, eqb-true, false≢true}
use Rattle.std.proofs.lemmas.Bool.Decides.{nat_tests}
use Rattle.qasm_lex.specs.declared.token.Kind.{Kind}
use Rattle.qasm_lex.specs.declared.token.Kind.TheVariants.{Ident, Number, Quoted, Semi, Comma, LeftBracket, RightBracket, LeftBrace, RightBrace, LeftParen, RightParen, Other}
use Rattle.qasm_lex.specs.Bytes.{is_name_start, is_digit, is_name, is_number, is_quoted, is_mark, is_token}
use Rattle.qasm_lex.specs.Front.{kind_at}

-- whether a token of the kind may begin with the byte
abbrev pub is_start : Kind → ℕ → Bool
is_start Ident b = is_name_start b
is_start Number b = is_digit b
is_start Quoted b = b == 34
is_start Semi b = list_any (λ m. b == m) (codes ";")
is_start Comma b = list_any (λ m. b == m) (codes ",")
is_start LeftBracket b = list_any (λ m. b == m) (codes "[")
is_start RightBracket b = list_any (λ m. b == m) (codes "]")
is_start LeftBrace b = list_any (λ m. b == m) (codes "{")
is_start RightBrace b = list_any (λ m. b == m) (codes "}")
is_start LeftParen b = list_any (λ m. b == m) (codes "(")
is_start RightParen b = list_any (λ m. b == m) (codes ")")
is_start Other b = list_any (λ m. b == m) (codes "+-*/^>=.")

-- two kinds that are found are one
some_same : (k l : Kind) → Some k ≡ Some l → k ≡ l
some_same k l e = cc

-- one test of `kind_at`: what holds of the kind that it gives and of the rest holds of the whole
step : (b : ℕ) (t : Bool) (kind k : Kind) (rest : Option Kind) → (t ≡ true → is_start kind b ≡ true) → (rest ≡ Some k → is_start k b ≡ true)
    → cond t (Some kind) rest ≡ Some k → is_start k b ≡ true
step b true kind k rest here there e = subst (λ (x : Kind). is_start x b ≡ true) (some_same kind k e) (here refl)
step b false kind k rest here there e = there e

-- a test is a disjunction of itself alone
alone : (t : Bool) → t ≡ true → (t || false) ≡ true
alone t e = ap (λ (x : Bool). x || false) e

-- a byte begins the kind that `kind_at` gives
pub start_of : (b : ℕ) (k : Kind) → kind_at b ≡ Some k → is_start k b ≡ true
unfolding kind_at
start_of b k e =
    step b _ Ident k _ (λ h. h) (
    step b _ Number k _ (λ h. h) (
    step b _ Quoted k _ (λ h. h) (
    step b _ Semi k _ (alone _) (
    step b _ Comma k _ (alone _) (
    step b _ LeftBracket k _ (alone _) (
    step b _ RightBracket k _ (alone _) (
    step b _ LeftBrace k _ (alone _) (
    step b _ RightBrace k _ (alone _) (
    step b _ LeftParen k _ (alone _) (
    step b _ RightParen k _ (alone _) (
    step b _ Other k _ (λ h. h) (λ (h : None ≡ Some k). absurd (cc))))))))))))) e

-- a byte equal to a known one has its kind
at_byte : (m b : ℕ) (k : Kind) → kind_at m ≡ Some k → (b == m) ≡ true → kind_at b ≡ Some k
at_byte m b k known e = subst (λ (x : ℕ). kind_at x ≡ Some k) (sym (eqb-true b m e)) known

-- a digit begins no name
digit_no_name : (b : ℕ) → is_digit b ≡ true → is_name_start b ≡ false
digit_no_name b e = grind (arith, nat_tests)

-- each byte of a list begins the kind
abbrev AllBegin : Kind → List ℕ → Type 0
AllBegin k [] = Unit {0}
AllBegin k (m ∷ ms) = (kind_at m ≡ Some k) × AllBegin k ms

-- a byte that is one of the marks has their kind
at_mark : (b : ℕ) (k : Kind) (marks : List ℕ) → AllBegin k marks → list_any (λ m. b == m) marks ≡ true → kind_at b ≡ Some k
at_mark b k [] known e = absurd (false≢true e)
at_mark b k (m ∷ ms) known e = ⊎_elim (λ h. at_byte m b k known.0 h) (λ h. at_mark b k ms known.1 h) (or_cases (b == m) (list_any (λ x. b == x) ms) e)

-- `kind_at` gives a kind that the byte begins
pub kind_of_start : (b : ℕ) (k : Kind) → is_start k b ≡ true → kind_at b ≡ Some k
unfolding kind_at
kind_of_start b Ident e = rw e refl
kind_of_start b Number e = rw (digit_no_name b e, e) refl
kind_of_start b Quoted e = at_byte 34 b Quoted refl e
kind_of_start b Semi e = at_mark b Semi (codes ";") (refl, tt) e
kind_of_start b Comma e = at_mark b Comma (codes ",") (refl, tt) e
kind_of_start b LeftBracket e = at_mark b LeftBracket (codes "[") (refl, tt) e
kind_of_start b RightBracket e = at_mark b RightBracket (codes "]") (refl, tt) e
kind_of_start b LeftBrace e = at_mark b LeftBrace (codes "{") (refl, tt) e
kind_of_start b RightBrace e = at_mark b RightBrace (codes "}") (refl, tt) e
kind_of_start b LeftParen e = at_mark b LeftParen (codes "(") (refl, tt) e
kind_of_start b RightParen e = at_mark b RightParen (codes ")") (refl, tt) e
kind_of_start b Other e = at_mark b Other (codes "+-*/^>=.") (refl, (refl, (refl, (refl, (refl, (refl, (refl, (refl, tt)))))))) e

-- a mark is one byte
pub mark_is : (marks : List ℕ) (b : ℕ) (bs : List ℕ) → is_mark marks (b ∷ bs) ≡ true → (list_any (λ m. b == m) marks ≡ true) × (bs ≡ [])
unfolding is_mark
mark_is marks b [] e = (e, refl)
mark_is marks b (c ∷ bs) e = absurd (false≢true e)

-- the first byte of a token begins its kind
pub starts : (k : Kind) (b : ℕ) (bs : List ℕ) → is_token k (b ∷ bs) ≡ true → is_start k b ≡ true
unfolding is_token is_name is_number is_quoted
starts Ident b bs e = (and_parts _ _ e).0
starts Number b bs e = (and_parts _ _ e).0
starts Quoted b bs e = (and_parts _ _ e).0
starts Semi b bs e = (mark_is _ b bs e).0
starts Comma b bs e = (mark_is _ b bs e).0
starts LeftBracket b bs e = (mark_is _ b bs e).0
starts RightBracket b bs e = (mark_is _ b bs e).0
starts LeftBrace b bs e = (mark_is _ b bs e).0
starts RightBrace b bs e = (mark_is _ b bs e).0
starts LeftParen b bs e = (mark_is _ b bs e).0
starts RightParen b bs e = (mark_is _ b bs e).0
starts Other b bs e = (mark_is _ b bs e).0
