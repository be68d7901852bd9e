-- The product with a power of ω, coordinate by coordinate.
use Rattle.std.proofs.Common.{◌≡◌, ℕ, ap, sym, ◌∙◌, arith}
use Rattle.std.specs.Prelude.{neg_ℤ}
use Rattle.std.proofs.lemmas.Int.{ints}
use Rattle.ring_laws.specs.Ring.{power}
use Rattle.ring_laws.specs.Cyclotomic.{Zω, number, integer, times, cyclotomics, ω}
use Rattle.ring_laws.proofs.Cyclotomic.{coordinatewise, times_assoc}

-- the product with ω
pub turn : (a : Zω) → times ω a ≡ number (neg_ℤ a.x3) a.x0 a.x1 a.x2
unfolding times ω
turn a = coordinatewise record { x0 = omega (arith, ints); x1 = omega (arith, ints); x2 = omega (arith, ints); x3 = omega (arith, ints) }

turn_more : (j : ℕ) (a b : Zω) → times (power cyclotomics ω j) a ≡ b → times (times ω (power cyclotomics ω j)) a ≡ number (neg_ℤ b.x3) b.x0 b.x1 b.x2
turn_more j a b e = times_assoc ω (power cyclotomics ω j) a ∙ ap (times ω) e ∙ turn b

pub turned_0 : (a : Zω) → times (power cyclotomics ω 0) a ≡ number a.x0 a.x1 a.x2 a.x3
unfolding times power integer
turned_0 a = coordinatewise record { x0 = omega (arith, ints); x1 = omega (arith, ints); x2 = omega (arith, ints); x3 = omega (arith, ints) }

pub turned_1 : (a : Zω) → times (power cyclotomics ω 1) a ≡ number (neg_ℤ a.x3) a.x0 a.x1 a.x2
unfolding power
turned_1 a = turn_more 0 a _ (turned_0 a)

pub turned_2 : (a : Zω) → times (power cyclotomics ω 2) a ≡ number (neg_ℤ a.x2) (neg_ℤ a.x3) a.x0 a.x1
unfolding power
turned_2 a = turn_more 1 a _ (turned_1 a)

pub turned_3 : (a : Zω) → times (power cyclotomics ω 3) a ≡ number (neg_ℤ a.x1) (neg_ℤ a.x2) (neg_ℤ a.x3) a.x0
unfolding power
turned_3 a = turn_more 2 a _ (turned_2 a)

pub turned_4 : (a : Zω) → times (power cyclotomics ω 4) a ≡ number (neg_ℤ a.x0) (neg_ℤ a.x1) (neg_ℤ a.x2) (neg_ℤ a.x3)
unfolding power
turned_4 a = turn_more 3 a _ (turned_3 a)

pub turned_5 : (a : Zω) → times (power cyclotomics ω 5) a ≡ number a.x3 (neg_ℤ a.x0) (neg_ℤ a.x1) (neg_ℤ a.x2)
unfolding power
turned_5 a =
    turn_more 4 a _ (turned_4 a)
    ∙ coordinatewise record { x0 = omega (arith, ints); x1 = omega (arith, ints); x2 = omega (arith, ints); x3 = omega (arith, ints) }

pub turned_6 : (a : Zω) → times (power cyclotomics ω 6) a ≡ number a.x2 a.x3 (neg_ℤ a.x0) (neg_ℤ a.x1)
unfolding power
turned_6 a =
    turn_more 5 a _ (turned_5 a)
    ∙ coordinatewise record { x0 = omega (arith, ints); x1 = omega (arith, ints); x2 = omega (arith, ints); x3 = omega (arith, ints) }

pub turned_7 : (a : Zω) → times (power cyclotomics ω 7) a ≡ number a.x1 a.x2 a.x3 (neg_ℤ a.x0)
unfolding power
turned_7 a =
    turn_more 6 a _ (turned_6 a)
    ∙ coordinatewise record { x0 = omega (arith, ints); x1 = omega (arith, ints); x2 = omega (arith, ints); x3 = omega (arith, ints) }

-- a value that is the k-th turn, where j is k
pub at_turn : (r a : Zω) (j k : ℕ) (v : Zω) → j ≡ k → times (power cyclotomics ω k) a ≡ v → r ≡ v → r ≡ times (power cyclotomics ω j) a
at_turn r a j k v e h g = rw e (g ∙ sym h)
