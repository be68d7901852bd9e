use Rattle.std.proofs.Common.{◌≡◌}
use Rattle.coset_table.specs.Seats.{numbers_of, IsSeatOf}
use Rattle.coset_table.proofs.tests.offer_each.Given as goal

abbrev pub invariant-loop-place : goal.invariant-loop-place
invariant-loop-place l = record {
  label : l.label.qubits ≡ 2;
  room : l.room.qubits ≡ 2;
  seat : IsSeatOf l.table l.seat;
  numbers : numbers_of l.seat ≡ numbers_of l.fn.seat;
}
