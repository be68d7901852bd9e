use Rattle.std.proofs.Common.{◌≡◌, ℕ, ◌^◌, ◌<◌, Bool, List, length, slice_index}
use Rattle.std.specs.Int.{bit_at}
use Rattle.channel_rep.specs.Cells.{table_of}
use Rattle.word_laws.specs.Parities.{parity}
use Rattle.quick_label.specs.Rooms.{AreBlocks}
use Rattle.quick_label.specs.Tables.{IsSparseTable}
use Rattle.quick_label.proofs.parities.write_within.Given as goal

abbrev pub invariant-loop-row : goal.invariant-loop-row
invariant-loop-row l = record {
  wholes : length l.wholes ≡ 4 ^ l.channel.qubits;
  parts : length l.parts ≡ 4 ^ l.channel.qubits;
  wholes_below : (row : ℕ) → row < l.row → slice_index l.wholes row < 2 ^ 4 ^ l.channel.qubits;
  parts_below : (row : ℕ) → row < l.row → slice_index l.parts row < 2 ^ 4 ^ l.channel.qubits;
  whole_bits : (span : List Bool) → AreBlocks (4 ^ l.channel.qubits) span l.blocks → IsSparseTable (4 ^ l.channel.qubits) span (table_of l.channel)
      → (row : ℕ) → row < l.row → (column : ℕ) → column < 4 ^ l.channel.qubits → bit_at (slice_index l.wholes row) column ≡ parity (table_of l.channel row column).a;
  part_bits : (span : List Bool) → AreBlocks (4 ^ l.channel.qubits) span l.blocks → IsSparseTable (4 ^ l.channel.qubits) span (table_of l.channel)
      → (row : ℕ) → row < l.row → (column : ℕ) → column < 4 ^ l.channel.qubits → bit_at (slice_index l.parts row) column ≡ parity (table_of l.channel row column).b;
}
