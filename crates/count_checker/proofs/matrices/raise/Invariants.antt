use Rattle.std.proofs.Common.{◌≡◌, ◌+◌, ◌-◌, ◌^◌}
use Rattle.ring_laws.specs.Ring.{power}
use Rattle.ring_laws.specs.Cyclotomic.{cyclotomics, times, root2}
use Rattle.tc_ring.specs.Bounds.{IsWithin}
use Rattle.tc_ring.specs.Omega.{number_of}
use Rattle.count_checker.proofs.matrices.raise.Given as goal

abbrev pub invariant-loop : goal.invariant-loop
invariant-loop l = record {
  value : number_of l.product ≡ times (power cyclotomics root2 l.counter) (number_of l.initial.product);
  small : IsWithin (2 ^ (120 - l.factors + l.counter)) (number_of l.product);
}
