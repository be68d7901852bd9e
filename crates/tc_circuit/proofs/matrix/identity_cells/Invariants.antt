use Rattle.std.proofs.Common.{◌≡◌, ℕ, ◌/◌, ◌%◌, ◌<◌, length, slice_index_or}
use Rattle.tc_ring.specs.Omega.{number_of}
use Rattle.ring_laws.specs.Matrix.{identity}
use Rattle.ring_laws.specs.Cyclotomic.{cyclotomics}
use Rattle.tc_circuit.specs.Grid.{no_cell}
use Rattle.tc_circuit.proofs.matrix.identity_cells.Given as goal

abbrev pub invariant-loop-place : goal.invariant-loop-place
invariant-loop-place l = record {
  long : length l.cells.items ≡ l.place;
  done : (i : ℕ) → i < l.place → number_of (slice_index_or l.cells.items i no_cell) ≡ identity cyclotomics (i / l.size) (i % l.size);
}
