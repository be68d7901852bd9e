-- Positions that follow one another.
use Rattle.std.proofs.Common.{◌≡◌, ℕ, ◌+◌, ◌-◌, ◌<◌, ◌≤◌, List, [], ◌∷◌, ◌++◌, All, ap, ◌∙◌, subst, append_assoc, arith}
use Rattle.std.specs.List.{range_with_len}
use Rattle.std.proofs.lemmas.List.FromFn.{length-range_with_len, get_or-range_with_len}
use Rattle.work_shares.proofs.Cover.{range-append}

-- the position p behind those from a on
pub one_more : (done : List ℕ) (a p : ℕ) → a ≤ p → (done ++ range_with_len a (p - a)) ++ p ∷ [] ≡ done ++ range_with_len a (p + 1 - a)
one_more done a p le =
    let at : p ≡ a + (p - a) = omega arith in
    let next : p - a + 1 ≡ p + 1 - a = omega arith in
    append_assoc done (range_with_len a (p - a)) (p ∷ []) ∙ ap (λ l. done ++ l) (ap (λ (k : ℕ). range_with_len a (p - a) ++ k ∷ []) at ∙ range-append a (p - a) 1 ∙ ap (range_with_len a) next)

-- what holds of each number of a range holds of one that lies in it
pub in_range : (P : ℕ → Type 0) (a n p : ℕ) → a ≤ p → p < a + n → All P (range_with_len a n) → P p
in_range P a n p low high all =
    let at : a + (p - a) ≡ p = omega arith in
    subst P (get_or-range_with_len a n (p - a) 0 (omega arith) ∙ at) (all (p - a) 0 (let l = length-range_with_len a n in omega arith))
