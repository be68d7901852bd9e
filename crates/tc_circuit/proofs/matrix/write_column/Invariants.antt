use Rattle.std.proofs.Common.{◌≡◌, ◌≢◌, ℕ, ◌^◌, ◌<◌, slice_index_or}
use Rattle.tc_ring.specs.Omega.{number_of}
use Rattle.tc_circuit.specs.Grid.{entries, no_cell}
use Rattle.tc_circuit.proofs.matrix.write_column.Given as goal

abbrev pub invariant-loop-row : goal.invariant-loop-row
invariant-loop-row l = record {
  done : (r : ℕ) → r < l.row → entries l.n l.cells r l.col ≡ number_of (slice_index_or l.column r no_cell);
  others : (r c : ℕ) → r < 2 ^ l.n → c < 2 ^ l.n → c ≢ l.col → entries l.n l.cells r c ≡ entries l.n l.initial.cells r c;
}
