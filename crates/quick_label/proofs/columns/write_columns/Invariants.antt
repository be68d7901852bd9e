use Rattle.std.proofs.Common.{◌≡◌, ℕ, ◌*◌, ◌^◌, ◌≤◌, Bool, List, length}
use Rattle.channel_rep.specs.Cells.{table_of}
use Rattle.quick_label.specs.Blocks.{block_rows}
use Rattle.quick_label.specs.Columns.{RowsBelow}
use Rattle.quick_label.specs.ColumnParts.{AreRuns}
use Rattle.quick_label.specs.Rooms.{AreBlocks}
use Rattle.quick_label.proofs.ColumnParts.{AreStarts}
use Rattle.quick_label.proofs.columns.write_columns.Given as goal

abbrev pub invariant-loop-column : goal.invariant-loop-column
invariant-loop-column l = record {
  starts : length l.starts ≡ length l.initial.starts;
  rows : length l.rows ≡ length l.initial.rows;
  values : length l.values ≡ length l.initial.values;
  most : l.end ≤ 2 * (l.column * l.size);
  below : RowsBelow (4 ^ l.channel.qubits) l.rows;
  places : AreStarts l.column l.end l.starts;
  runs : (span : List Bool) → AreBlocks (4 ^ l.channel.qubits) span l.blocks → AreRuns (table_of l.channel) (block_rows (4 ^ l.channel.qubits) span) l.column l.starts l.rows l.values;
}
