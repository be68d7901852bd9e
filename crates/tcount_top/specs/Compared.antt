-- What comparing the two programs of a text finds out, as an outcome of `check`.
use Rattle.std.specs.Prelude.{⊤, ℕ, Bool, true, false, List}
use Rattle.qasm_reader.specs.declared.fault.ReadFault.{ReadFault}
use Rattle.qasm_reader.specs.declared.fault.ReadFault.TheVariants.{Refused as Refusing, Memory as NoReading}
use Rattle.count_checker.specs.declared.fault.CheckFault.{CheckFault}
use Rattle.count_checker.specs.declared.fault.CheckFault.TheVariants.{TooManyH as TooManyToCheck, Memory as NoChecking}
use Rattle.tcount_top.specs.declared.top.Status.TheVariants.{Found, Above, Refused}
use Rattle.tcount_top.specs.declared.check.NotCompared.{NotCompared}
use Rattle.tcount_top.specs.declared.check.NotCompared.TheVariants.{NoHalves, Refused as NotRead, TooManyH, Memory}
use Rattle.tcount_top.specs.Lines.{refusal_line, no_halves_line, many_h_line, same_line, different_line}
use Rattle.tcount_top.specs.Out.{CheckOut}

-- why programs aren't compared that aren't read
abbrev pub unread : ReadFault → NotCompared
unread (Refusing number place) = NotRead number place
unread NoReading = Memory

-- and circuits
abbrev pub unchecked : CheckFault → NotCompared
unchecked (TooManyToCheck count) = TooManyH count
unchecked NoChecking = Memory

-- that they are the same, or that they aren't, is the outcome
abbrev pub IsVerdict : List ℕ → Bool → Type 0
IsVerdict text true = CheckOut text Found same_line
IsVerdict text false = CheckOut text Above different_line

-- the reason is the outcome, or want of memory, of which nothing is said
abbrev pub IsReason : List ℕ → NotCompared → Type 0
IsReason text NoHalves = CheckOut text Refused no_halves_line
IsReason text (NotRead number place) = CheckOut text Refused (refusal_line number place)
IsReason text (TooManyH count) = CheckOut text Refused (many_h_line count)
IsReason text Memory = ⊤
