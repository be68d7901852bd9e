-- An angle symbol by symbol, as the code takes it: one function for each step. The public clauses say nothing of them but that
-- a reading has taken some symbols.
use Rattle.std.specs.Prelude.{◌≡◌, ℕ, ◌+◌, ◌*◌, ◌%◌, ◌==◌, Bool, true, false, List, fold, Option, Some, None, if◌then◌else◌, option_map}
use Rattle.qasm_angle.specs.declared.symbols.Symbol.{Symbol}
use Rattle.qasm_angle.specs.declared.symbols.Symbol.TheVariants.{Plus, Minus, Times, Over, Pi, Digits, Foreign}
use Rattle.qasm_angle.specs.declared.terms.Term.{Term}
use Rattle.qasm_angle.specs.declared.terms.Place.{Place}
use Rattle.qasm_angle.specs.declared.terms.Place.TheVariants.{Start, Signed, Factor, FactorTimes, JustPi, PiTimes, Multiple, Divided, Ratio, Nowhere}
use Rattle.qasm_angle.specs.declared.readings.Sum.{Sum}
use Rattle.qasm_angle.specs.declared.readings.AngleReading.{AngleReading}
use Rattle.qasm_angle.specs.declared.angles.AngleValue.{AngleValue}
use Rattle.qasm_angle.specs.declared.angles.AngleValue.TheVariants.{Eighths, Inexact, NotAngle}
use Rattle.qasm_angle.specs.Angles.{ratio, is_exact, eighths_in}

-- the place in a term behind a symbol
unfoldable pub place_behind : Place → Symbol → Place
place_behind Start (Digits d) = Factor d
place_behind Signed (Digits d) = Factor d
place_behind Start Pi = JustPi
place_behind Signed Pi = JustPi
place_behind (Factor d) Times = FactorTimes d
place_behind (FactorTimes d) Pi = Multiple d
place_behind JustPi Times = PiTimes
place_behind PiTimes (Digits d) = Multiple d
place_behind JustPi Over = Divided 1
place_behind (Multiple d) Over = Divided d
place_behind (Divided d) (Digits b) = Ratio d b
place_behind place other = Nowhere

-- the term that ends at a place, if one does
unfoldable pub term_at : Place → Option Term
term_at (Factor d) = if d == 0 then Some (ratio 0 1) else None
term_at JustPi = Some (ratio 1 1)
term_at (Multiple d) = Some (ratio d 1)
term_at (Ratio d b) = Some (ratio d b)
term_at other = None

-- the sum with a term
abbrev pub sum_with : Sum → Bool → Term → Sum
sum_with s minus t =
    if is_exact t then record { exact = s.exact; eighths = (s.eighths + (if minus then 7 else 1) * eighths_in t) % 8 }
    else record { exact = false; eighths = s.eighths }

-- the sum up to a place where a sign may stand, if it is one
abbrev pub sum_at : Place → Sum → Bool → Option Sum
sum_at Start s minus = Some s
sum_at place s minus = option_map (sum_with s minus) (term_at place)

abbrev pub start : AngleReading
start = record { place = Start; minus = false; sum = record { exact = true; eighths = 0 } }

-- behind a sign
abbrev pub behind_sign : Bool → AngleReading → Option Sum → AngleReading
behind_sign minus r None = record r { place = Nowhere }
behind_sign minus r (Some s) = record { place = Signed; minus = minus; sum = s }

-- behind a symbol
unfoldable pub reading_behind : AngleReading → Symbol → AngleReading
reading_behind r Plus = behind_sign false r (sum_at r.place r.sum r.minus)
reading_behind r Minus = behind_sign true r (sum_at r.place r.sum r.minus)
reading_behind r other = record r { place = place_behind r.place other }

-- behind symbols
unfoldable pub reading_of : List Symbol → AngleReading
reading_of ss = fold reading_behind start ss

-- what a sum is
abbrev pub value_of_sum : Sum → AngleValue
value_of_sum s = if s.exact then Eighths s.eighths else Inexact

abbrev pub value_with : AngleReading → Option Term → AngleValue
value_with r None = NotAngle
value_with r (Some t) = value_of_sum (sum_with r.sum r.minus t)

-- what the symbols that were read are
unfoldable pub value_at : AngleReading → AngleValue
value_at r = value_with r (term_at r.place)

-- what symbols are
abbrev pub value_of : List Symbol → AngleValue
value_of ss = value_at (reading_of ss)

-- the reading has taken these symbols
abbrev pub HasRead : AngleReading → List Symbol → Type 0
HasRead r ss = r ≡ reading_of ss
