use Rattle.std.proofs.Common.{◌≡◌, ℕ, ◌/◌, ◌%◌, ◌<◌, length}
use Rattle.ring_laws.specs.Matrix.{identity}
use Rattle.tc_ring.specs.Surds.{surds}
use Rattle.channel_rep.specs.Cells.{cell_of}
use Rattle.channel_rep.proofs.channel.identity_cells.Given as goal

abbrev pub invariant-loop-place : goal.invariant-loop-place
invariant-loop-place l = record {
  long : length l.cells.items ≡ l.place;
  done : (i : ℕ) → i < l.place → cell_of l.cells.items i ≡ identity surds (i / l.size) (i % l.size);
}
