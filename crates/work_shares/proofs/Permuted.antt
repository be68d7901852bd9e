-- Lemmas for the crates above: lists by how often each element stands in them, or by their sums: which are parts of one another, and which are permutations.
use Rattle.std.proofs.Common.{◌≡◌, ℕ, ◌==◌, ◌&&◌, ◌<◌, ◌≤◌, Bool, true, false, cond, List, [], ◌∷◌, ◌++◌, IsPermutation, refl, sym, ap, ◌∙◌, subst, arith}
use Rattle.std.specs.List.{sum_by}
use Rattle.std.proofs.lemmas.List.{append-nil}
use Rattle.std.proofs.lemmas.List.Sums.{sum_by-cons, sum_by-append}
use Rattle.std.proofs.lemmas.List.Sorted.{IsPermutation-refl, IsPermutation-cons, IsPermutation-middle, IsPermutation-trans, sum_by-IsPermutation}
use Rattle.std.proofs.lemmas.Bool.Decides.{nat_tests}

-- a test that tells elements apart
pub record Tells {X : Type 0} (same : X → X → Bool) : Type 0 where
  pub only : (x y : X) → same x y ≡ true → y ≡ x
  pub itself : (x : X) → same x x ≡ true

module _ {X : Type 0} (same : X → X → Bool) (tells : Tells same) where
  -- the test as a number
  abbrev is_it : X → X → ℕ
  is_it x y = cond (same x y) 1 0

  -- where an element is found
  abbrev Found : X → List X → Type 0
  Found x ys = (before : List X) × ((after : List X) × (ys ≡ before ++ x ∷ after))

  -- it is the first element, or it comes later
  found_first : (x y : X) (ys : List X) (b : Bool) → same x y ≡ b → 0 < sum_by (is_it x) (y ∷ ys) → (0 < sum_by (is_it x) ys → Found x ys) → Found x (y ∷ ys)
  found_first x y ys true e some rest = ([], (ys, ap (λ z. z ∷ ys) (tells.only x y e)))
  found_first x y ys false e some rest =
      let none : is_it x y ≡ 0 = ap (λ b. cond b 1 0) e in
      let f : Found x ys = rest (omega (arith, sum_by-cons (is_it x) y ys)) in
      (y ∷ f.0, (f.1.0, ap (λ l. y ∷ l) f.1.1))

  found : (x : X) (ys : List X) → 0 < sum_by (is_it x) ys → Found x ys
  found x [] some = absurd (omega arith)
  found x (y ∷ ys) some = found_first x y ys (same x y) refl some (found x ys)

  -- where each element stands no more often than in another list, the list is a part of that
  pub part_by_counts : (xs ys : List X) → ((x : X) → sum_by (is_it x) xs ≤ sum_by (is_it x) ys) → (left : List X) × IsPermutation ys (xs ++ left)
  part_by_counts [] ys le = (ys, IsPermutation-refl ys)
  part_by_counts (x ∷ xs) ys le =
      let own : is_it x x ≡ 1 = ap (λ b. cond b 1 0) (tells.itself x) in
      let f = found x ys (let some = le x in omega (arith, sum_by-cons (is_it x) x xs)) in
      let before = f.0 in
      let after = f.1.0 in
      let is : ys ≡ before ++ x ∷ after = f.1.1 in
      let less : (z : X) → sum_by (is_it z) xs ≤ sum_by (is_it z) (before ++ after) = λ z.
      omega (arith, le z, sum_by-cons (is_it z) x xs, ap (sum_by (is_it z)) is, sum_by-append (is_it z) before (x ∷ after), sum_by-cons (is_it z) x after, sum_by-append (is_it z) before after) in
      let rest = part_by_counts xs (before ++ after) less in (
        rest.0,
        subst (λ (l : List X). IsPermutation l (x ∷ xs ++ rest.0)) (sym is)
            (IsPermutation-trans (before ++ x ∷ after) (x ∷ (before ++ after)) (x ∷ xs ++ rest.0) (IsPermutation-middle before x after)
            (IsPermutation-cons x (before ++ after) (xs ++ rest.0) rest.1)),
      )

  -- where each stands as often, nothing is left
  pub permuted_by_counts : (xs ys : List X) → ((x : X) → sum_by (is_it x) xs ≡ sum_by (is_it x) ys) → IsPermutation xs ys
  permuted_by_counts xs ys equal =
      let part = part_by_counts ys xs (λ x. omega (arith, equal x)) in
      let none : part.0 ≡ [] = empty part.0 (λ x. omega (arith, equal x, sum_by-IsPermutation (is_it x) xs (ys ++ part.0) part.1, sum_by-append (is_it x) ys part.0)) in
      subst (IsPermutation xs) (ap (λ l. ys ++ l) none ∙ append-nil ys) part.1
    where
      empty : (zs : List X) → ((x : X) → sum_by (is_it x) zs ≡ 0) → zs ≡ []
      empty [] e = refl
      empty (z ∷ zs) e = let own : is_it z z ≡ 1 = ap (λ b. cond b 1 0) (tells.itself z) in absurd (omega (arith, own, e z, sum_by-cons (is_it z) z zs))

  -- the same by sums: where no sum is greater
  pub part_of : (xs ys : List X) → ((weight : X → ℕ) → sum_by weight xs ≤ sum_by weight ys) → (left : List X) × IsPermutation ys (xs ++ left)
  part_of xs ys le = part_by_counts xs ys (λ x. le (is_it x))

  -- and where all sums are the same
  pub permuted : (xs ys : List X) → ((weight : X → ℕ) → sum_by weight xs ≡ sum_by weight ys) → IsPermutation xs ys
  permuted xs ys equal = permuted_by_counts xs ys (λ x. equal (is_it x))

-- numbers are told apart by their test
pub tells_numbers : Tells (λ (a b : ℕ). a == b)
tells_numbers = record { only = λ a b e. grind (arith, nat_tests); itself = λ a. grind (arith, nat_tests) }

-- a test of pairs of numbers
abbrev pub same_pair : ℕ × ℕ → ℕ × ℕ → Bool
same_pair p q = (p.0 == q.0) && (p.1 == q.1)

-- pairs with the same parts
pair_of : (p q : ℕ × ℕ) → q.0 ≡ p.0 → q.1 ≡ p.1 → q ≡ p
pair_of p q a b = ap (λ k. (k, q.1)) a ∙ ap (λ k. (p.0, k)) b

-- the test tells them apart
pub tells_pairs : Tells same_pair
tells_pairs = record { only = λ p q e. pair_of p q (grind (arith, nat_tests)) (grind (arith, nat_tests)); itself = λ p. grind (arith, nat_tests) }
