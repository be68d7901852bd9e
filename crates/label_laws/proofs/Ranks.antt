-- In a strictly rising list the place of a member is the number of lesser ones.
use Rattle.std.proofs.Common.{◌≡◌, ℕ, zero, suc, ◌+◌, ◌*◌, ◌<◌, false, List, [], ◌∷◌, length, get_or, refl, ap, sym, ◌∙◌, arith, Ordering, Less, Equal, Greater}
use Rattle.std.specs.Cmp.{IsTotalOrder}
use Rattle.std.specs.Ordering.{is_lt, ordering_reverse}
use Rattle.std.specs.List.{AllByRecursion, sum_by}
use Rattle.std.specs.List.Sorted.{IsStrictlySortedBy, IsPermutation}
use Rattle.std.specs.Prelude.{cond}
use Rattle.std.proofs.lemmas.List.Sums.{sum_by-cons}
use Rattle.std.proofs.lemmas.List.Sorted.{sum_by-IsPermutation}
use Rattle.label_laws.specs.Ranks.{rank, summed_by_place}

-- functions that agree on the members have one sum
pub sum_by_members : {X : Type 0} (f g : X → ℕ) (xs : List X) → AllByRecursion (λ x. f x ≡ g x) xs → sum_by f xs ≡ sum_by g xs
sum_by_members f g [] all = refl
sum_by_members f g (x ∷ xs) all = omega (arith, sum_by-cons f x xs, sum_by-cons g x xs, all.0, sum_by_members f g xs all.1)

module _ {K : Type 0} {R : K → K → Ordering} (order : IsTotalOrder R) where
  -- what is greater isn't less
  not_below : (x y : K) → R x y ≡ Less → is_lt (R y x) ≡ false
  not_below x y e = ap is_lt (order.antisymm y x ∙ ap ordering_reverse e)

  -- nor is what is the same
  not_below_itself : (x : K) → is_lt (R x x) ≡ false
  not_below_itself x = by (R x x) refl
    where
      by : (o : Ordering) → R x x ≡ o → is_lt (R x x) ≡ false
      by Less e = absurd (turned (sym e ∙ order.antisymm x x ∙ ap ordering_reverse e))
        where
          turned : Less ≡ Greater → ⊥
          turned d = cc
      by Equal e = ap is_lt e
      by Greater e = ap is_lt e

  -- none of the members is less than the first
  none_below : (x : K) (xs : List K) → AllByRecursion (λ y. R x y ≡ Less) xs → rank R xs x ≡ 0
  none_below x [] all = refl
  none_below x (y ∷ xs) all =
      sum_by-cons (λ z. cond (is_lt (R z x)) 1 0) y xs
      ∙ (λ i. cond (not_below x y all.0 i) 1 0 + none_below x xs all.1 i)

  -- the first one has place 0
  pub rank-first : (x : K) (xs : List K) → AllByRecursion (λ y. R x y ≡ Less) xs → rank R (x ∷ xs) x ≡ 0
  rank-first x xs all = sum_by-cons (λ z. cond (is_lt (R z x)) 1 0) x xs ∙ (λ i. cond (not_below_itself x i) 1 0 + none_below x xs all i)

  -- and the others one place more
  pub rank-later : (x y : K) (xs : List K) → R x y ≡ Less → rank R (x ∷ xs) y ≡ suc (rank R xs y)
  rank-later x y xs e = sum_by-cons (λ z. cond (is_lt (R z y)) 1 0) x xs ∙ (λ i. cond (is_lt (e i)) 1 0 + rank R xs y) ∙ (omega arith)

  -- the place of a member is the number of lesser ones
  pub rank_is : (xs : List K) → IsStrictlySortedBy R xs → (i : ℕ) (d : K) → i < length xs → rank R xs (get_or xs i d) ≡ i
  unfolding IsStrictlySortedBy
  rank_is [] sorted i d l = absurd (omega arith)
  rank_is (x ∷ xs) sorted zero d l = rank-first x xs sorted.0
  rank_is (x ∷ xs) sorted (suc i) d l =
      rank-later x (get_or xs i d) xs (member xs i sorted.0 (omega arith)) ∙ ap suc (rank_is xs sorted.1 i d (omega arith))
    where
      member : (ys : List K) (i : ℕ) → AllByRecursion (λ y. R x y ≡ Less) ys → i < length ys → R x (get_or ys i d) ≡ Less
      member [] i all l = absurd (omega arith)
      member (y ∷ ys) zero all l = all.0
      member (y ∷ ys) (suc i) all l = member ys i all.1 (omega arith)

  -- so a sum by places is a sum over the members
  pub summed_is : (h : K → ℕ) (q : ℕ → ℕ) (xs : List K) → IsStrictlySortedBy R xs → summed_by_place h q xs ≡ sum_by (λ x. h x * q (rank R xs x)) xs
  unfolding IsStrictlySortedBy
  summed_is h q [] sorted = refl
  summed_is h q (x ∷ xs) sorted =
      (λ i. h x * q (sym (rank-first x xs sorted.0) i) + (summed_is h (λ k. q (suc k)) xs sorted.1 ∙ sum_by_members _ _ xs (later xs sorted.0)) i)
      ∙ sym (sum_by-cons (λ y. h y * q (rank R (x ∷ xs) y)) x xs)
    where
      later : (ys : List K) → AllByRecursion (λ y. R x y ≡ Less) ys → AllByRecursion (λ y. h y * q (suc (rank R xs y)) ≡ h y * q (rank R (x ∷ xs) y)) ys
      later [] all = tt
      later (y ∷ ys) all = (ap (λ k. h y * q k) (sym (rank-later x y xs all.0)), later ys all.1)

  -- in whatever order the members are taken
  pub summed_in_any_order : (h : K → ℕ) (q : ℕ → ℕ) (xs ys : List K) → IsStrictlySortedBy R xs → IsPermutation ys xs → summed_by_place h q xs ≡ sum_by (λ x. h x * q (rank R ys x)) ys
  summed_in_any_order h q xs ys sorted moved =
      summed_is h q xs sorted
      ∙ sum_by-IsPermutation (λ x. h x * q (rank R xs x)) ys xs moved
      ∙ ap (λ (g : K → ℕ). sum_by (λ x. h x * q (g x)) ys) (λ i x. sum_by-IsPermutation (λ z. cond (is_lt (R z x)) 1 0) ys xs moved i)
