-- Angles that are multiples of pi, as sums of terms: which tokens are one, which is exact, and how many eighths of a full turn
-- it is. An angle is exact where each of its terms is, so that pi/8+pi/8 isn't: that is this project's own rule.
use Rattle.std.specs.Prelude.{◌≡◌, ℕ, ◌+◌, ◌*◌, ◌/◌, ◌%◌, ◌<◌, ◌≤◌, ◌⊎◌, Bool, true, false, ◌&&◌, ◌==◌, not, List, [], ◌∷◌, ◌++◌, length, Option, Some, None, if◌then◌else◌}
use Rattle.std.specs.List.{list_all, sum_by}
use Rattle.qasm_lex.specs.declared.token.Token.{Token}
use Rattle.qasm_angle.specs.declared.symbols.Symbol.{Symbol}
use Rattle.qasm_angle.specs.declared.symbols.Symbol.TheVariants.{Plus, Minus, Times, Over, Pi, Digits, Foreign}
use Rattle.qasm_angle.specs.declared.terms.Term.{Term}
use Rattle.qasm_angle.specs.declared.angles.AngleValue.{AngleValue}
use Rattle.qasm_angle.specs.declared.angles.AngleValue.TheVariants.{Eighths, Inexact, NotAngle}

-- so many times pi, divided
abbrev pub ratio : ℕ → ℕ → Term
ratio times over = record { times = times; over = over }

-- the term that symbols are: 0, which is 0 times pi; or pi, a number times pi or pi times a number, alone or over a number
unfoldable pub term : List Symbol → Option Term
term (Digits d ∷ []) = if d == 0 then Some (ratio 0 1) else None
term (Pi ∷ []) = Some (ratio 1 1)
term (Pi ∷ Over ∷ Digits b ∷ []) = Some (ratio 1 b)
term (Digits d ∷ Times ∷ Pi ∷ []) = Some (ratio d 1)
term (Digits d ∷ Times ∷ Pi ∷ Over ∷ Digits b ∷ []) = Some (ratio d b)
term (Pi ∷ Times ∷ Digits d ∷ []) = Some (ratio d 1)
term (Pi ∷ Times ∷ Digits d ∷ Over ∷ Digits b ∷ []) = Some (ratio d b)
term other = None

-- a term with its sign
pub record Summand : Type 0 where
  pub minus : Bool
  pub term : Term

abbrev pub sign : Bool → Symbol
sign minus = if minus then Minus else Plus

-- the symbols are these terms, each behind its sign
abbrev pub IsSum : List Symbol → List Summand → Type 0
IsSum ss [] = ss ≡ []
IsSum ss (x ∷ xs) = (part : List Symbol) × (rest : List Symbol) × (ss ≡ sign x.minus ∷ part ++ rest) × (term part ≡ Some x.term) × IsSum rest xs

-- the symbols are an angle of these terms: one or more, of which the first may have no sign
abbrev pub IsAngle : List Symbol → List Summand → Type 0
IsAngle ss xs = (0 < length xs) × (IsSum ss xs ⊎ IsSum (Plus ∷ ss) xs)

-- a term is exact where it is a whole number of eighths of a full turn, which is 2 pi: where its divisor isn't 0 and divides 4
-- times its number
abbrev pub is_exact : Term → Bool
is_exact t = not (t.over == 0) && ((4 * t.times) % t.over == 0)

-- its eighths
abbrev pub eighths_in : Term → ℕ
eighths_in t = (4 * t.times) / t.over

-- with the sign, where -1 is 7, modulo 8
abbrev pub signed_eighths : Summand → ℕ
signed_eighths x = (if x.minus then 7 else 1) * eighths_in x.term

-- an angle is exact where each term is
abbrev pub are_exact : List Summand → Bool
are_exact xs = list_all (λ x. is_exact x.term) xs

-- the eighths of an exact angle, modulo a full turn
abbrev pub eighths : List Summand → ℕ
eighths xs = sum_by signed_eighths xs % 8

-- what an angle of these terms is
abbrev pub value_in : List Summand → AngleValue
value_in xs = if are_exact xs then Eighths (eighths xs) else Inexact

-- what the symbols are: an angle, exact or not, or none
abbrev pub HasValue : List Symbol → AngleValue → Type 0
HasValue ss (Eighths j) = (xs : List Summand) × IsAngle ss xs × (value_in xs ≡ Eighths j)
HasValue ss Inexact = (xs : List Summand) × IsAngle ss xs × (value_in xs ≡ Inexact)
HasValue ss NotAngle = (xs : List Summand) → IsAngle ss xs → ⊥
