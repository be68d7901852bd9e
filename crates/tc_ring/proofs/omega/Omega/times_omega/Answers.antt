use Rattle.std.proofs.Common.{arith, sym, subst, ◌≡◌}
use Rattle.std.proofs.lemmas.Int.{ints}
use Rattle.ring_laws.proofs.Cyclotomic.{coordinatewise}
use Rattle.tc_ring.specs.Omega.{number_of}
use Rattle.tc_ring.specs.Bounds.{IsWithin}
use Rattle.tc_ring.proofs.Turns.{at_turn, turned_0, turned_1, turned_2, turned_3, turned_4, turned_5, turned_6, turned_7}
use Rattle.tc_ring.proofs.Bounds.{within_turn}
use Rattle.tc_ring.proofs.omega.Omega.times_omega.Goals as goal

pub returns-in-0-clause-value : goal.returns-in-0-clause-value
returns-in-0-clause-value c = at_turn _ _ _ _ _ c.in-0.is (turned_0 (number_of c.args.self)) (coordinatewise record { x0 = omega (arith, ints); x1 = omega (arith, ints); x2 = omega (arith, ints); x3 = omega (arith, ints) })

pub returns-in-0-clause-bound : goal.returns-in-0-clause-bound
returns-in-0-clause-bound c = λ a small. subst (IsWithin a) (sym (returns-in-0-clause-value c)) (within_turn a c.args.j _ small)

pub returns-in-1-clause-value : goal.returns-in-1-clause-value
returns-in-1-clause-value c = at_turn _ _ _ _ _ c.in-1.is (turned_1 (number_of c.args.self)) (coordinatewise record { x0 = omega (arith, ints); x1 = omega (arith, ints); x2 = omega (arith, ints); x3 = omega (arith, ints) })

pub returns-in-1-clause-bound : goal.returns-in-1-clause-bound
returns-in-1-clause-bound c = λ a small. subst (IsWithin a) (sym (returns-in-1-clause-value c)) (within_turn a c.args.j _ small)

pub returns-in-2-clause-value : goal.returns-in-2-clause-value
returns-in-2-clause-value c = at_turn _ _ _ _ _ c.in-2.is (turned_2 (number_of c.args.self)) (coordinatewise record { x0 = omega (arith, ints); x1 = omega (arith, ints); x2 = omega (arith, ints); x3 = omega (arith, ints) })

pub returns-in-2-clause-bound : goal.returns-in-2-clause-bound
returns-in-2-clause-bound c = λ a small. subst (IsWithin a) (sym (returns-in-2-clause-value c)) (within_turn a c.args.j _ small)

pub returns-in-3-clause-value : goal.returns-in-3-clause-value
returns-in-3-clause-value c = at_turn _ _ _ _ _ c.in-3.is (turned_3 (number_of c.args.self)) (coordinatewise record { x0 = omega (arith, ints); x1 = omega (arith, ints); x2 = omega (arith, ints); x3 = omega (arith, ints) })

pub returns-in-3-clause-bound : goal.returns-in-3-clause-bound
returns-in-3-clause-bound c = λ a small. subst (IsWithin a) (sym (returns-in-3-clause-value c)) (within_turn a c.args.j _ small)

pub returns-in-4-clause-value : goal.returns-in-4-clause-value
returns-in-4-clause-value c = at_turn _ _ _ _ _ c.in-4.is (turned_4 (number_of c.args.self)) (coordinatewise record { x0 = omega (arith, ints); x1 = omega (arith, ints); x2 = omega (arith, ints); x3 = omega (arith, ints) })

pub returns-in-4-clause-bound : goal.returns-in-4-clause-bound
returns-in-4-clause-bound c = λ a small. subst (IsWithin a) (sym (returns-in-4-clause-value c)) (within_turn a c.args.j _ small)

pub returns-in-5-clause-value : goal.returns-in-5-clause-value
returns-in-5-clause-value c = at_turn _ _ _ _ _ c.in-5.is (turned_5 (number_of c.args.self)) (coordinatewise record { x0 = omega (arith, ints); x1 = omega (arith, ints); x2 = omega (arith, ints); x3 = omega (arith, ints) })

pub returns-in-5-clause-bound : goal.returns-in-5-clause-bound
returns-in-5-clause-bound c = λ a small. subst (IsWithin a) (sym (returns-in-5-clause-value c)) (within_turn a c.args.j _ small)

pub returns-in-6-clause-value : goal.returns-in-6-clause-value
returns-in-6-clause-value c = at_turn _ _ _ _ _ c.in-6.is (turned_6 (number_of c.args.self)) (coordinatewise record { x0 = omega (arith, ints); x1 = omega (arith, ints); x2 = omega (arith, ints); x3 = omega (arith, ints) })

pub returns-in-6-clause-bound : goal.returns-in-6-clause-bound
returns-in-6-clause-bound c = λ a small. subst (IsWithin a) (sym (returns-in-6-clause-value c)) (within_turn a c.args.j _ small)

pub returns-in_default-clause-value : goal.returns-in_default-clause-value
returns-in_default-clause-value c =
    let seventh : c.args.j ≡ 7 = omega arith in
    at_turn _ _ _ _ _ seventh (turned_7 (number_of c.args.self)) (coordinatewise record { x0 = omega (arith, ints); x1 = omega (arith, ints); x2 = omega (arith, ints); x3 = omega (arith, ints) })

pub returns-in_default-clause-bound : goal.returns-in_default-clause-bound
returns-in_default-clause-bound c = λ a small. subst (IsWithin a) (sym (returns-in_default-clause-value c)) (within_turn a c.args.j _ small)
