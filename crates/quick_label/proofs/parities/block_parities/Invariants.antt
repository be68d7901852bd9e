use Rattle.std.proofs.Common.{ℕ, ◌^◌, ◌<◌, take}
use Rattle.channel_rep.specs.Cells.{table_of}
use Rattle.word_laws.specs.Parities.{parity}
use Rattle.quick_label.specs.ParityWords.{HasBitsAt}
use Rattle.quick_label.proofs.parities.block_parities.Given as goal

abbrev pub invariant-loop-k : goal.invariant-loop-k
invariant-loop-k l = record {
  whole_below : l.wholes < 2 ^ 4 ^ l.channel.qubits;
  part_below : l.parts < 2 ^ 4 ^ l.channel.qubits;
  wholes : HasBitsAt (take l.k l.columns) (λ k. parity (table_of l.channel l.row k).a) l.wholes;
  parts : HasBitsAt (take l.k l.columns) (λ k. parity (table_of l.channel l.row k).b) l.parts;
}
