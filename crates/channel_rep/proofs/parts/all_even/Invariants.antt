use Rattle.std.proofs.Common.{◌≡◌, ℕ, ◌<◌, ◌%◌}
use Rattle.std.specs.Prelude.{nat_abs}
use Rattle.channel_rep.specs.Lanes.{number}
use Rattle.channel_rep.proofs.parts.all_even.Given as goal

abbrev pub invariant-loop-x : goal.invariant-loop-x
invariant-loop-x l = (k : ℕ) → k < l.x-index → nat_abs (number l.numbers k) % 2 ≡ 0
