use Rattle.std.proofs.Common.{◌≡◌, ℕ, ◌+◌, ◌-◌, ◌^◌, ◌≤◌, length, slice_index}
use Rattle.std.specs.Prelude.{ℤ, ◌*ℤ◌, if◌then◌else◌}
use Rattle.ring_laws.specs.Matrix.{sum}
use Rattle.ring_laws.specs.Ring.{integers}
use Rattle.channel_rep.specs.Cells.{table_of}
use Rattle.quick_label.specs.Columns.{RowsBelow, run_sum}
use Rattle.quick_label.specs.ColumnParts.{IsKeptTo}
use Rattle.quick_label.proofs.columns.write_run.Given as goal

abbrev pub invariant-loop-k : goal.invariant-loop-k
invariant-loop-k l = record {
  rows : length l.rows ≡ length l.initial.rows;
  values : length l.values ≡ length l.initial.values;
  from : l.start ≤ l.end;
  most : l.end ≤ l.start + l.k;
  below : RowsBelow (4 ^ l.channel.qubits) l.rows;
  kept : IsKeptTo l.start l.initial.rows l.rows l.initial.values l.values;
  sum : (w : ℕ → ℤ) → run_sum w l.rows l.values l.start (l.end - l.start) ≡ sum integers l.k
      (λ j. w (slice_index l.block j) *ℤ (if l.part then (table_of l.channel (slice_index l.block j) l.column).b else (table_of l.channel (slice_index l.block j) l.column).a));
}
