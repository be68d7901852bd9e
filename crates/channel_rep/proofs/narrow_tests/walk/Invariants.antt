use Rattle.std.proofs.Common.{◌≡◌}
use Rattle.channel_rep.proofs.narrow_tests.walk.Given as goal

abbrev pub invariant-loop : goal.invariant-loop
invariant-loop g l = record {
  channel : l.c.qubits ≡ l.n;
  narrow : l.m.qubits ≡ l.n;
}
