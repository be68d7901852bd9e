-- The order of words, the least word of a set of words, and all words of one length in their order.
-- The order is the lexicographic one of the letters' codes; of two lengths the shorter word is the lesser.
use Rattle.std.specs.Prelude.{◌≡◌, ℕ, zero, suc, ◌-◌, ◌^◌, ◌≤◌, List, [], ◌∷◌, length, map, flat_map}
use Rattle.std.specs.List.{range_with_len}
use Rattle.std.specs.Ordering.{nat_cmp}
use Rattle.std.specs.declared.cmp.Ordering.TheVariants.{Less}
use Rattle.std.specs.Cmp.Lexicographic.{slice_cmp}

-- v stands before w in the lexicographic order of codes
abbrev pub IsEarlier : List ℕ → List ℕ → Type 0
IsEarlier v w = slice_cmp nat_cmp v w ≡ Less

-- the least word of a set: none of the set is shorter, and none of its length is earlier
pub record IsLeast (Set : List ℕ → Type 0) (w : List ℕ) : Type 0 where
  pub member : Set w
  pub shortest : (v : List ℕ) → Set v → length w ≤ length v
  pub first : (v : List ℕ) → Set v → length v ≡ length w → IsEarlier v w → ⊥

-- all words of so many letters on n qubits, in their order
abbrev pub words_of : ℕ → ℕ → List (List ℕ)
words_of n zero = [] ∷ []
words_of n (suc k) = flat_map (λ letter. map (λ word. letter ∷ word) (words_of n k)) (range_with_len 1 (4 ^ n - 1))
