-- Lemmas for the crates above: sorted lists without repetition are equal where they have the same members.
use Rattle.std.proofs.Common.{◌≡◌, ◌↔◌, ◌+◌, Bool, true, false, List, [], ◌∷◌, get_or, refl, sym, arith, Ordering, Less, Equal, Greater}
use Rattle.std.specs.Prelude.{IsTrue}
use Rattle.std.specs.Cmp.{IsTotalOrder}
use Rattle.std.specs.Cmp.Lexicographic.{slice_cmp}
use Rattle.std.specs.List.{Contains, IsDistinct}
use Rattle.std.specs.List.Sorted.{IsSorted, IsStrictlySortedBy}
use Rattle.std.specs.Ordering.{eq_by_cmp, is_eq, is_lt, ordering_reverse, ordering_then}
use Rattle.std.proofs.lemmas.Map.Keys.{sorted_from_all_adjacent, apart_from_distinct}
use Rattle.std.proofs.lemmas.Map.Lookups.{CmpEqualImpliesEq, btree_set_from_contains}
use Rattle.std.proofs.lemmas.Map.Views.{btree_set_contains_iff}

-- lists are equal where the lexicographic order doesn't tell them apart
pub exact_lists : {K : Type 0} {R : K → K → Ordering} → CmpEqualImpliesEq R → CmpEqualImpliesEq (slice_cmp R)
exact_lists exact [] [] e = refl
exact_lists exact [] (y ∷ ys) e = absurd cc
exact_lists exact (x ∷ xs) [] e = absurd cc
exact_lists {R = R} exact (x ∷ xs) (y ∷ ys) e = by (R x y) refl e (exact_lists exact xs ys)
  where
    by : (o : Ordering) → R x y ≡ o → ordering_then o (slice_cmp R xs ys) ≡ Equal → (slice_cmp R xs ys ≡ Equal → xs ≡ ys) → x ∷ xs ≡ y ∷ ys
    by Less d h rest = absurd cc
    by Equal d h rest = λ i. exact x y d i ∷ rest h i
    by Greater d h rest = absurd cc

-- what is neither greater nor equal is less
less_of_rest : (o back : Ordering) → o ≡ ordering_reverse back → is_lt back ≡ false → is_eq o ≡ false → o ≡ Less
less_of_rest Less back e l d = refl
less_of_rest Equal back e l d = absurd cc
less_of_rest Greater Less e l d = absurd cc
less_of_rest Greater Equal e l d = absurd cc
less_of_rest Greater Greater e l d = absurd cc

-- tests that say the same
same_test : (a b : Bool) → (IsTrue a → IsTrue b) → (IsTrue b → IsTrue a) → a ≡ b
same_test true b there back = sym (there refl)
same_test false true there back = back refl
same_test false false there back = refl

module _ {K : Type 0} {R : K → K → Ordering} (order : IsTotalOrder R) where
  -- a sorted list without repetition rises
  pub rising : (xs : List K) → IsSorted R xs → IsDistinct (eq_by_cmp R) xs → IsStrictlySortedBy R xs
  unfolding IsStrictlySortedBy
  rising [] sorted distinct = tt
  rising (x ∷ xs) sorted distinct = sorted_from_all_adjacent order (x ∷ xs) x (λ k l.
      less_of_rest _ _ (order.antisymm (get_or (x ∷ xs) k x) (get_or (x ∷ xs) (k + 1) x)) (sorted k x (omega arith) l) (apart_from_distinct (eq_by_cmp R) (x ∷ xs) k (k + 1) x distinct (omega arith) l))

  -- two such lists with the same members are equal
  pub same_members : CmpEqualImpliesEq R → (xs ys : List K) → IsStrictlySortedBy R xs → IsStrictlySortedBy R ys → ((z : K) → Contains xs z ↔ Contains ys z) → xs ≡ ys
  same_members exact xs ys up also_up same =
      btree_set_from_contains order (record { keys = xs }) (record { keys = ys }) up also_up
      (λ z. same_test _ _
      (λ t. (btree_set_contains_iff order exact (record { keys = ys }) z).1 ((same z).0 ((btree_set_contains_iff order exact (record { keys = xs }) z).0 t)))
      (λ t. (btree_set_contains_iff order exact (record { keys = xs }) z).1 ((same z).1 ((btree_set_contains_iff order exact (record { keys = ys }) z).0 t))))
      exact
