-- Lemmas for the crates above: how far the operations let coordinates grow.
use Rattle.std.proofs.Common.{◌≤◌, ℕ, zero, suc, ◌+◌, ◌*◌, sym, subst, arith}
use Rattle.std.proofs.lemmas.Int.{ints}
use Rattle.ring_laws.specs.Ring.{power}
use Rattle.ring_laws.specs.Cyclotomic.{Zω, plus, negative, times, cyclotomics, ω, root2}
use Rattle.ring_laws.proofs.Cyclotomic.{times_assoc}
use Rattle.tc_ring.specs.Bounds.{IsWithin}
use Rattle.tc_ring.proofs.Turns.{turn, turned_0}

-- a larger bound
pub within_more : (a b : ℕ) (x : Zω) → a ≤ b → IsWithin a x → IsWithin b x
within_more a b x l small = record { low0 = omega (arith, ints); high0 = omega (arith, ints); low1 = omega (arith, ints); high1 = omega (arith, ints); low2 = omega (arith, ints); high2 = omega (arith, ints); low3 = omega (arith, ints); high3 = omega (arith, ints) }

pub within_plus : (a b : ℕ) (x y : Zω) → IsWithin a x → IsWithin b y → IsWithin (a + b) (plus x y)
unfolding plus
within_plus a b x y left right = record { low0 = omega (arith, ints); high0 = omega (arith, ints); low1 = omega (arith, ints); high1 = omega (arith, ints); low2 = omega (arith, ints); high2 = omega (arith, ints); low3 = omega (arith, ints); high3 = omega (arith, ints) }

pub within_negative : (a : ℕ) (x : Zω) → IsWithin a x → IsWithin a (negative x)
unfolding negative
within_negative a x small = record { low0 = omega (arith, ints); high0 = omega (arith, ints); low1 = omega (arith, ints); high1 = omega (arith, ints); low2 = omega (arith, ints); high2 = omega (arith, ints); low3 = omega (arith, ints); high3 = omega (arith, ints) }

pub within_root2 : (a : ℕ) (x : Zω) → IsWithin a x → IsWithin (2 * a) (times root2 x)
unfolding times root2
within_root2 a x small = record { low0 = omega (arith, ints); high0 = omega (arith, ints); low1 = omega (arith, ints); high1 = omega (arith, ints); low2 = omega (arith, ints); high2 = omega (arith, ints); low3 = omega (arith, ints); high3 = omega (arith, ints) }

within_ω : (a : ℕ) (x : Zω) → IsWithin a x → IsWithin a (times ω x)
within_ω a x small = subst (IsWithin a) (sym (turn x)) record { low0 = omega (arith, ints); high0 = omega (arith, ints); low1 = omega (arith, ints); high1 = omega (arith, ints); low2 = omega (arith, ints); high2 = omega (arith, ints); low3 = omega (arith, ints); high3 = omega (arith, ints) }

pub within_turn : (a j : ℕ) (x : Zω) → IsWithin a x → IsWithin a (times (power cyclotomics ω j) x)
unfolding power
within_turn a zero x small = subst (IsWithin a) (sym (turned_0 x)) small
within_turn a (suc j) x small = subst (IsWithin a) (sym (times_assoc ω (power cyclotomics ω j) x)) (within_ω a _ (within_turn a j x small))
