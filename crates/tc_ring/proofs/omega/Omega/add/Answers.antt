use Rattle.std.proofs.Common.{arith, sym, subst}
use Rattle.std.proofs.lemmas.Int.{ints}
use Rattle.ring_laws.specs.Cyclotomic.{plus}
use Rattle.ring_laws.proofs.Cyclotomic.{coordinatewise}
use Rattle.tc_ring.specs.Bounds.{IsWithin}
use Rattle.tc_ring.proofs.Bounds.{within_plus}
use Rattle.tc_ring.proofs.omega.Omega.add.Goals as goal

pub returns-clause-value : goal.returns-clause-value
unfolding plus
returns-clause-value c = coordinatewise record { x0 = omega (arith, ints); x1 = omega (arith, ints); x2 = omega (arith, ints); x3 = omega (arith, ints) }

pub returns-clause-bound : goal.returns-clause-bound
returns-clause-bound c = λ a b left right. subst (IsWithin _) (sym (returns-clause-value c)) (within_plus a b _ _ left right)
