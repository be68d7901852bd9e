use Rattle.std.proofs.Common.{◌≡◌, ℕ, ◌^◌, ◌<◌, slice_index_or, length}
use Rattle.tc_ring.specs.Omega.{number_of}
use Rattle.ring_laws.specs.Matrix.{product}
use Rattle.ring_laws.specs.Cyclotomic.{cyclotomics}
use Rattle.tc_circuit.specs.Gate.{gate_table}
use Rattle.tc_circuit.specs.Grid.{entries, no_cell}
use Rattle.tc_circuit.proofs.matrix.changed_column.Given as goal

abbrev pub invariant-loop-row : goal.invariant-loop-row
invariant-loop-row l = record {
  long : length l.column ≡ 8;
  done : (r : ℕ) → r < l.row → number_of (slice_index_or l.column r no_cell) ≡ product cyclotomics (2 ^ l.n) (gate_table l.gate) (entries l.n l.cells) r l.col;
}
