use Rattle.std.proofs.Common.{◌≡◌, ℕ, ◌^◌, ◌<◌}
use Rattle.std.specs.Int.{bit_at}
use Rattle.channel_rep.specs.Cells.{table_of}
use Rattle.word_laws.specs.Parities.{parity}
use Rattle.quick_label.proofs.parities.row_parities.Given as goal

abbrev pub invariant-loop-column : goal.invariant-loop-column
invariant-loop-column l = record {
  whole_below : l.wholes < 2 ^ l.column;
  part_below : l.parts < 2 ^ l.column;
  wholes : (k : ℕ) → k < l.column → bit_at l.wholes k ≡ parity (table_of l.channel l.row k).a;
  parts : (k : ℕ) → k < l.column → bit_at l.parts k ≡ parity (table_of l.channel l.row k).b;
}
