-- A list whose elements are set one after the other.
use Rattle.std.proofs.Common.{◌≡◌, ℕ, ◌+◌, ◌<◌, List, length, slice_index_or, slice_set, subst, sym, arith, inl, inr}
use Rattle.std.proofs.lemmas.Bool.{cases_eq}
use Rattle.std.proofs.lemmas.Grind.{get_or-set_at}
use Rattle.std.proofs.lemmas.List.{get_or-set_other}

-- what holds of those before and of the new one holds of one more
pub one_more : {X : Type 0} (P : ℕ → X → Type 0) (xs : List X) (i : ℕ) (x d : X) → i < length xs → ((k : ℕ) → k < i → P k (slice_index_or xs k d)) → P i x
    → (k : ℕ) → k < i + 1 → P k (slice_index_or (slice_set xs i x) k d)
one_more P xs i x d l before here k lk = elim (cases_eq k i) [
  | inl e ↦ subst (λ j. P j (slice_index_or (slice_set xs i x) j d)) (sym e) (subst (P i) (sym (get_or-set_at xs i i x d e' l)) here)
  | inr n ↦ subst (P k) (sym (get_or-set_other xs i k x d n)) (before k (omega arith))
]
  where
    e' : i ≡ i
    e' = λ _. i
