-- Lemmas for the crates above: facts about all small numbers, by computing.
use Rattle.std.proofs.Common.{ℕ, zero, suc, ◌<◌, Bool, true, false, ◌&&◌, T, sym, arith, subst, inl, inr}
use Rattle.std.proofs.lemmas.Bool.{cases_eq}

-- each part of a conjunction that holds
pub and_left : (a b : Bool) → T (a && b) → T a
and_left true b h = tt
and_left false b h = absurd h

-- the second part of a conjunction that holds
pub and_right : (a b : Bool) → T (a && b) → T b
and_right true b h = h
and_right false b h = absurd h

-- a test of 0 to n − 1
abbrev pub all : ℕ → (ℕ → Bool) → Bool
all zero f = true
all (suc n) f = f n && all n f

-- the test of one of them
pub all_at : (n : ℕ) (f : ℕ → Bool) → T (all n f) → (k : ℕ) → k < n → T (f k)
all_at zero f h k l = absurd (omega arith)
all_at (suc n) f h k l = elim (cases_eq k n) [
  | inl e ↦ subst (λ (j : ℕ). T (f j)) (sym e) (and_left (f n) (all n f) h)
  | inr d ↦ all_at n f (and_right (f n) (all n f) h) k (omega arith)
]

-- the test of a pair
pub all_at2 : (m n : ℕ) (f : ℕ → ℕ → Bool) → T (all m (λ i. all n (f i))) → (i j : ℕ) → i < m → j < n → T (f i j)
all_at2 m n f h i j l l' = all_at n (f i) (all_at m (λ i. all n (f i)) h i l) j l'

-- the test of a triple
pub all_at3 : (m n o : ℕ) (f : ℕ → ℕ → ℕ → Bool) → T (all m (λ i. all n (λ j. all o (f i j)))) → (i j k : ℕ) → i < m → j < n → k < o → T (f i j k)
all_at3 m n o f h i j k l l' l'' = all_at o (f i j) (all_at2 m n (λ i j. all o (f i j)) h i j l l') k l''
