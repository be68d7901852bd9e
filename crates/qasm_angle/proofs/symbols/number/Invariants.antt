use Rattle.std.proofs.Common.{◌≡◌, ◌^◌, ◌<◌, take}
use Rattle.qasm_angle.specs.Symbols.{number}
use Rattle.qasm_angle.proofs.symbols.number.Given as goal

abbrev pub invariant-loop-digit : goal.invariant-loop-digit
invariant-loop-digit l = (l.n ≡ number (take l.digit-index l.digits)) × (l.n < 10 ^ l.digit-index)
