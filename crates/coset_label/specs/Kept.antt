-- The words that are kept of a list of offers of one length: of each coset the first.
use Rattle.std.specs.Prelude.{◌↔◌, ℕ, List, Contains}
use Rattle.std.specs.List.Sorted.{IsStrictlySortedBy}
use Rattle.std.specs.Ordering.{nat_cmp}
use Rattle.std.specs.Cmp.Lexicographic.{slice_cmp}
use Rattle.coset_label.specs.Cosets.{SameCosetWords}
use Rattle.coset_label.specs.Order.{IsEarlier}

-- an offer before which no offer lies in its coset
pub record IsKept (n : ℕ) (offers : List (List ℕ)) (w : List ℕ) : Type 0 where
  pub offered : Contains offers w
  pub first : (v : List ℕ) → Contains offers v → IsEarlier v w → SameCosetWords n v w → ⊥

-- these are the words that are kept of the offers, each once and in order
pub record AreKept (n : ℕ) (offers kept : List (List ℕ)) : Type 0 where
  pub rises : IsStrictlySortedBy (slice_cmp nat_cmp) kept
  pub members : (w : List ℕ) → Contains kept w ↔ IsKept n offers w
