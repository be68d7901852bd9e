-- The elements of lists that are made from other lists.
use Rattle.std.proofs.Common.{◌≡◌, ℕ, zero, suc, Bool, true, false, ◌+◌, ◌-◌, ◌<◌, ◌≤◌, ◌⊎◌, List, [], ◌∷◌, ◌++◌, length, map, flat_map, filter, Contains, slice_index_or, refl, ap, sym, ◌∙◌, subst, inl, inr, arith}
use Rattle.std.specs.List.{AllByRecursion, range_with_len}
use Rattle.std.specs.List.Sorted.{IsStrictlySortedBy}
use Rattle.std.specs.declared.cmp.Ordering.{Ordering}
use Rattle.std.specs.declared.cmp.Ordering.TheVariants.{Less}
use Rattle.std.proofs.lemmas.Bool.{cond-true, cond-false}
use Rattle.std.proofs.lemmas.List.{length-map, get_or-map}
use Rattle.std.proofs.lemmas.List.FromFn.{get_or-range_with_len, length-range_with_len}
use Rattle.std.proofs.lemmas.List.Elements.{filter_passes, All-filter, All-contains_itself, Contains-append_left, Contains-append_right, Contains-append_cases}

module _ {X : Type 0} where
  -- ---- one element in front
  pub later : (x y : X) (xs : List X) → Contains xs y → Contains (x ∷ xs) y
  later x y xs c = (suc c.0, let l = c.1 in omega arith, c.2)

  pub first : (x : X) (xs : List X) → Contains (x ∷ xs) x
  first x xs = (0, omega arith, refl)

  -- it is the first, or one of the others
  pub first_or_later : (x y : X) (xs : List X) → Contains (x ∷ xs) y → (x ≡ y) ⊎ Contains xs y
  first_or_later x y xs c = by c.0 c.1 c.2
    where
      by : (k : ℕ) → k < suc (length xs) → slice_index_or (x ∷ xs) k y ≡ y → (x ≡ y) ⊎ Contains xs y
      by zero l e = inl e
      by (suc k) l e = inr (k, omega arith, e)

  pub none_in_empty : (y : X) → Contains [] y → ⊥
  none_in_empty y c = let l = c.1 in absurd (omega arith)

  -- ---- a fact of each element
  pub all_from : (P : X → Type 0) (xs : List X) → ((x : X) → Contains xs x → P x) → AllByRecursion P xs
  all_from P [] h = tt
  all_from P (x ∷ xs) h = (h x (first x xs), all_from P xs (λ y c. h y (later x y xs c)))

  pub all_at : (P : X → Type 0) (xs : List X) → AllByRecursion P xs → (x : X) → Contains xs x → P x
  all_at P [] h y c = absurd (none_in_empty y c)
  all_at P (x ∷ xs) h y c = elim (first_or_later x y xs c) [ inl e ↦ subst P e h.0 | inr d ↦ all_at P xs h.1 y d ]

  -- ---- a filter
  pub from_filter : (test : X → Bool) (xs : List X) (x : X) → Contains (filter test xs) x → Contains xs x × (test x ≡ true)
  from_filter test xs x c = (
    subst (Contains xs) c.2 (All-filter test (Contains xs) xs (All-contains_itself xs) c.0 x c.1),
    subst (λ y. test y ≡ true) c.2 (filter_passes test xs c.0 x c.1),
  )

  pub in_filter : (test : X → Bool) (xs : List X) (x : X) → Contains xs x → test x ≡ true → Contains (filter test xs) x
  in_filter test [] x c t = absurd (none_in_empty x c)
  in_filter test (z ∷ xs) x c t = by (λ d. in_filter test xs x d t) (test z) refl (first_or_later z x xs c)
    where
      by : (Contains xs x → Contains (filter test xs) x) → (b : Bool) → test z ≡ b → (z ≡ x) ⊎ Contains xs x → Contains (filter test (z ∷ xs)) x
      by rest true e (inl same) = subst (λ (l : List X). Contains l x) (sym (cond-true (test z) _ _ e)) (subst (Contains (z ∷ filter test xs)) same (first z _))
      by rest true e (inr d) = subst (λ (l : List X). Contains l x) (sym (cond-true (test z) _ _ e)) (later z x _ (rest d))
      by rest false e (inl same) = absurd cc
      by rest false e (inr d) = subst (λ (l : List X). Contains l x) (sym (cond-false (test z) _ _ e)) (rest d)

module _ {X Y : Type 0} where
  -- ---- images
  pub in_map : (f : X → Y) (xs : List X) (x : X) → Contains xs x → Contains (map f xs) (f x)
  in_map f xs x c = (c.0, let l = c.1 in omega (arith, length-map xs f), get_or-map f xs c.0 x (f x) c.1 ∙ ap f c.2)

  pub from_map : (f : X → Y) (xs : List X) (y : Y) → Contains (map f xs) y → (x : X) × Contains xs x × (f x ≡ y)
  from_map f [] y c = absurd (none_in_empty y c)
  from_map f (x ∷ xs) y c = elim (first_or_later (f x) y (map f xs) c) [
    | inl e ↦ (x, first x xs, e)
    | inr d ↦ (let h = from_map f xs y d in (h.0, later x h.0 xs h.1, h.2))
  ]

  -- ---- lists in a row
  pub in_flat_map : (f : X → List Y) (xs : List X) (x : X) (y : Y) → Contains xs x → Contains (f x) y → Contains (flat_map f xs) y
  in_flat_map f [] x y c d = absurd (none_in_empty x c)
  in_flat_map f (z ∷ xs) x y c d = elim (first_or_later z x xs c) [
    | inl e ↦ Contains-append_left (f z) (flat_map f xs) y (subst (λ (k : X). Contains (f k) y) (sym e) d)
    | inr b ↦ Contains-append_right (f z) (flat_map f xs) y (in_flat_map f xs x y b d)
  ]

  pub from_flat_map : (f : X → List Y) (xs : List X) (y : Y) → Contains (flat_map f xs) y → (x : X) × Contains xs x × Contains (f x) y
  from_flat_map f [] y c = absurd (none_in_empty y c)
  from_flat_map f (x ∷ xs) y c = elim (Contains-append_cases (f x) (flat_map f xs) y c) [
    | inl d ↦ (x, first x xs, d)
    | inr d ↦ (let h = from_flat_map f xs y d in (h.0, later x h.0 xs h.1, h.2))
  ]

-- ---- the numbers of a range
pub in_range : (a count k : ℕ) → a ≤ k → k < a + count → Contains (range_with_len a count) k
in_range a count k low high = (k - a, omega (arith, length-range_with_len a count), get_or-range_with_len a count (k - a) k (omega arith) ∙ omega arith)

pub from_range : (a count k : ℕ) → Contains (range_with_len a count) k → (a ≤ k) × (k < a + count)
from_range a count k c =
    let l : c.0 < count = omega (arith, c.1, length-range_with_len a count) in
    let e : a + c.0 ≡ k = sym (get_or-range_with_len a count c.0 k l) ∙ c.2 in
    (omega arith, omega arith)

-- ---- sorted lists
-- one behind another, where each element of the first is before each of the second
pub sorted-append : {X : Type 0} (c : X → X → Ordering) (xs ys : List X) → IsStrictlySortedBy c xs → IsStrictlySortedBy c ys
    → ((x y : X) → Contains xs x → Contains ys y → c x y ≡ Less) → IsStrictlySortedBy c (xs ++ ys)
unfolding IsStrictlySortedBy
sorted-append c [] ys hx hy cross = hy
sorted-append c (x ∷ xs) ys hx hy cross = (
  all_from (λ y. c x y ≡ Less) (xs ++ ys) (λ y d. elim (Contains-append_cases xs ys y d) [
    | inl a ↦ all_at (λ z. c x z ≡ Less) xs hx.0 y a
    | inr b ↦ cross x y (first x xs) b
  ]),
  sorted-append c xs ys hx.1 hy (λ a b d e. cross a b (later x a xs d) e),
)
