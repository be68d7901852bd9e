use Rattle.std.proofs.Common.{◌≡◌, ◌+◌, take}
use Rattle.channel_rep.specs.Cells.{scaled}
use Rattle.channel_rep.specs.Tables.{SameTable}
use Rattle.level_laws.specs.Levels.{removed}
use Rattle.tcount_top.specs.Printed.{codes_of}
use Rattle.tcount_top.proofs.print.take_off.Given as goal

abbrev pub invariant-loop-letter : goal.invariant-loop-letter
invariant-loop-letter l = record {
  qubits : l.channel.qubits ≡ l.fn.channel.qubits;
  exponent : l.channel.exponent ≡ l.fn.channel.exponent + l.letter-index;
  table : SameTable l.fn.channel.qubits (scaled l.channel) (removed l.fn.channel.qubits (scaled l.fn.channel) (take l.letter-index (codes_of l.letters)));
}
