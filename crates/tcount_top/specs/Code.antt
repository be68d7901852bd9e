-- The exit statuses of the program.
use Rattle.std.specs.Prelude.{ℕ}
use Rattle.tcount_top.specs.declared.top.Status.{Status}
use Rattle.tcount_top.specs.declared.top.Status.TheVariants.{Found, Above, Refused, Usage, ReadFault, WriteFault, NoMemory}

-- the status that the program ends with
abbrev pub code_of : Status → ℕ
code_of Found = 0
code_of Above = 1
code_of Refused = 2
code_of Usage = 3
code_of ReadFault = 4
code_of WriteFault = 5
code_of NoMemory = 6
