use Rattle.std.proofs.Common.{◌≡◌, ◌<◌, ℕ}
use Rattle.std.specs.Prelude.{slice_index_or}
use Rattle.channel_rep.specs.Cells.{no_cell}
use Rattle.channel_rep.specs.Lanes.{number}
use Rattle.channel_rep.proofs.parts.join.Given as goal

abbrev pub invariant-loop-k : goal.invariant-loop-k
invariant-loop-k l = (k : ℕ) → k < l.k → slice_index_or l.cells k no_cell ≡ record { a = number l.a k; b = number l.b k }
