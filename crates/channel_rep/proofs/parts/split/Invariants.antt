use Rattle.std.proofs.Common.{◌≡◌, ◌<◌, ℕ}
use Rattle.std.specs.Prelude.{slice_index_or}
use Rattle.channel_rep.specs.Cells.{no_cell}
use Rattle.channel_rep.specs.Lanes.{number}
use Rattle.channel_rep.proofs.parts.split.Given as goal

abbrev pub invariant-loop-k : goal.invariant-loop-k
invariant-loop-k l = record {
  whole : (k : ℕ) → k < l.k → number l.a k ≡ (slice_index_or l.cells k no_cell).a;
  root : (k : ℕ) → k < l.k → number l.b k ≡ (slice_index_or l.cells k no_cell).b;
}
