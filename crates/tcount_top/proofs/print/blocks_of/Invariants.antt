use Rattle.std.proofs.Common.{◌≡◌, ◌+◌, ◌*◌, ◌≤◌, drop, length, vec_len, vec_capacity}
use Rattle.tc_circuit.specs.Model.{IsCircuit, t_count_of}
use Rattle.tc_bridge.specs.Block.{word_gates}
use Rattle.tcount_top.specs.Printed.{codes_of}
use Rattle.tcount_top.proofs.print.blocks_of.Given as goal

abbrev pub invariant-loop-place : goal.invariant-loop-place
invariant-loop-place l = record {
  room : vec_len l.gates + 17 * l.place ≤ vec_capacity l.gates;
  blocks : l.gates.items ≡ word_gates l.n (drop l.place (codes_of l.letters));
  circuit : IsCircuit l.n l.gates.items;
  count : t_count_of l.gates.items + l.place ≡ length l.letters;
  short : length l.gates.items + 17 * l.place ≤ 17 * length l.letters;
}
