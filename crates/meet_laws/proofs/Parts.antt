-- The fronts of a least word are least, and halves that meet spell one.
use Rattle.std.proofs.Common.{◌≡◌, ℕ, List, ◌++◌, length, subst, inl, inr, arith, length-append}
use Rattle.coset_label.specs.Order.{IsEarlier, IsLeast}
use Rattle.level_laws.proofs.Earlier.{earlier_append, earlier_total}
use Rattle.level_laws.proofs.Search.{one_least}

-- what is before b is least among what as many letters can follow in the set
pub prefix_least : (Set Before : List ℕ → Type 0) (a b : List ℕ) → ((v : List ℕ) → Before v → (x : List ℕ) × (length x ≡ length b) × Set (v ++ x)) → Before a → IsLeast Set (a ++ b) → IsLeast Before a
prefix_least Set Before a b follow member h = record {
  member = member;
  shortest = λ v s.
      let x = follow v s in
      let l = h.shortest (v ++ x.0) x.2 in
      omega (arith, length-append a b, length-append v x.0, x.1);
  first = λ v s l e.
      let x = follow v s in
      h.first (v ++ x.0) x.2 (omega (arith, length-append a b, length-append v x.0, x.1, l)) (earlier_append v a x.0 b l e);
}

-- ---- halves that meet
-- behind the front stands the least of what makes words of the set with it, and it has k letters
pub record Joins (Set : List ℕ → Type 0) (k : ℕ) (front back : List ℕ) : Type 0 where
  pub least : IsLeast (λ v. Set (front ++ v)) back
  pub long : length back ≡ k

-- the first front that meets spells the least word, where that has a front as long with as many letters behind it
pub first_meeting : (Set : List ℕ → Type 0) (k : ℕ) (a b c d : List ℕ) → length a ≡ length c → Joins Set k a b → Joins Set k c d
    → (IsEarlier c a → ⊥) → IsLeast Set (c ++ d) → a ++ b ≡ c ++ d
first_meeting Set k a b c d long meets other none least = elim (earlier_total a c) [
  | inl e ↦ (λ i. e i ++ back e i)
  | inr (inl l) ↦ absurd (least.first (a ++ b) meets.least.member (omega (arith, length-append a b, length-append c d, long, meets.long, other.long)) (earlier_append a c b d long l))
  | inr (inr g) ↦ absurd (none g)
]
  where
    back : a ≡ c → b ≡ d
    back e = one_least (λ v. Set (c ++ v)) b d (subst (λ z. IsLeast (λ v. Set (z ++ v)) b) e meets.least) other.least
