-- Sums over views, by their places.
use Rattle.std.proofs.Common.{◌≡◌, ◌≢◌, ℕ, zero, suc, ◌+◌, ◌≤◌, List, [], ◌∷◌, set, sym, refl, ap, arith}
use Rattle.std.specs.List.{sum_by}
use Rattle.std.proofs.lemmas.List.Sums.{sum_by-cons}
use mathlib.Core.Option.{some, some-injective, some-ne-none}
use lib.ListN.{get_elem?}

module _ {X : Type 0} (f : X → ℕ) where
  -- one element is replaced
  pub total-set : (xs : List X) (i : ℕ) (x y : X) → get_elem? xs i ≡ some x → sum_by f (set xs i y) + f x ≡ sum_by f xs + f y
  total-set [] i x y e = absurd (some-ne-none x (sym e))
  total-set (z ∷ zs) zero x y e = let is : f z ≡ f x = ap f (some-injective z x e) in omega (arith, sum_by-cons f z zs, sum_by-cons f y zs)
  total-set (z ∷ zs) (suc i) x y e = omega (arith, total-set zs i x y e, sum_by-cons f z zs, sum_by-cons f z (set zs i y))

  -- an element is no more than all
  pub member_le : (xs : List X) (i : ℕ) (x : X) → get_elem? xs i ≡ some x → f x ≤ sum_by f xs
  member_le [] i x e = absurd (some-ne-none x (sym e))
  member_le (z ∷ zs) zero x e = let is : f z ≡ f x = ap f (some-injective z x e) in omega (arith, sum_by-cons f z zs)
  member_le (z ∷ zs) (suc i) x e = omega (arith, member_le zs i x e, sum_by-cons f z zs)

  -- two elements at different places
  pub members_le : (xs : List X) (i j : ℕ) (x y : X) → i ≢ j → get_elem? xs i ≡ some x → get_elem? xs j ≡ some y → f x + f y ≤ sum_by f xs
  members_le [] i j x y n a b = absurd (some-ne-none x (sym a))
  members_le (z ∷ zs) zero zero x y n a b = absurd (n refl)
  members_le (z ∷ zs) zero (suc j) x y n a b = let is : f z ≡ f x = ap f (some-injective z x a) in omega (arith, member_le zs j y b, sum_by-cons f z zs)
  members_le (z ∷ zs) (suc i) zero x y n a b = let is : f z ≡ f y = ap f (some-injective z y b) in omega (arith, member_le zs i x a, sum_by-cons f z zs)
  members_le (z ∷ zs) (suc i) (suc j) x y n a b = omega (arith, members_le zs i j x y (λ e. n (ap suc e)) a b, sum_by-cons f z zs)

-- where f is at most g at each element, the others' f is at most the others' g
module _ {X : Type 0} (f g : X → ℕ) where
  pub total_le : (xs : List X) → ((j : ℕ) (u : X) → get_elem? xs j ≡ some u → f u ≤ g u) → sum_by f xs ≤ sum_by g xs
  total_le [] le = omega arith
  total_le (x ∷ xs) le = let a = le 0 x refl in omega (arith, total_le xs (λ j u e. le (suc j) u e), sum_by-cons f x xs, sum_by-cons g x xs)

  pub others_le : (xs : List X) (i : ℕ) (x : X) → get_elem? xs i ≡ some x → ((j : ℕ) (u : X) → get_elem? xs j ≡ some u → f u ≤ g u) → sum_by f xs + g x ≤ f x + sum_by g xs
  others_le [] i x e le = absurd (some-ne-none x (sym e))
  others_le (z ∷ zs) zero x e le =
      let a : f z ≡ f x = ap f (some-injective z x e) in
      let b : g z ≡ g x = ap g (some-injective z x e) in
      omega (arith, total_le zs (λ j u e. le (suc j) u e), sum_by-cons f z zs, sum_by-cons g z zs)
  others_le (z ∷ zs) (suc i) x e le = let a = le 0 z refl in omega (arith, others_le zs i x e (λ j u e. le (suc j) u e), sum_by-cons f z zs, sum_by-cons g z zs)

-- where f is 0 at each element at which g is, and g is 0 at each but one, the sum of f is f there
module _ {X : Type 0} (f g : X → ℕ) where
  total_zero : (xs : List X) → sum_by g xs ≡ 0 → ((j : ℕ) (u : X) → get_elem? xs j ≡ some u → g u ≡ 0 → f u ≡ 0) → sum_by f xs ≡ 0
  total_zero [] e k = refl
  total_zero (x ∷ xs) e k =
      let c = sum_by-cons g x xs in
      let a = k 0 x refl (omega arith) in
      omega (arith, total_zero xs (omega arith) (λ j u e. k (suc j) u e), sum_by-cons f x xs)

  pub only_one : (xs : List X) (i : ℕ) (x : X) → get_elem? xs i ≡ some x → sum_by g xs ≡ g x → ((j : ℕ) (u : X) → get_elem? xs j ≡ some u → g u ≡ 0 → f u ≡ 0) → sum_by f xs ≡ f x
  only_one [] i x at e k = absurd (some-ne-none x (sym at))
  only_one (z ∷ zs) zero x at e k =
      let a : g z ≡ g x = ap g (some-injective z x at) in
      let b : f z ≡ f x = ap f (some-injective z x at) in
      let c = sum_by-cons g z zs in
      omega (arith, total_zero zs (omega arith) (λ j u e. k (suc j) u e), sum_by-cons f z zs)
  only_one (z ∷ zs) (suc i) x at e k =
      let c = sum_by-cons g z zs in
      let m : g x ≤ sum_by g zs = member_le g zs i x at in
      let a = k 0 z refl (omega arith) in
      omega (arith, only_one zs i x at (omega arith) (λ j u e. k (suc j) u e), sum_by-cons f z zs)
