-- A word with one letter more of those it had.
use Rattle.std.proofs.Common.{◌≡◌, ℕ, suc, ◌-◌, ◌<◌, List, ◌∷◌, drop, slice_get, Some, sym, ◌∙◌, arith}
use Rattle.std.proofs.Math.Seq.{drop-cons}
use Rattle.std.proofs.lemmas.Option.{get_or_from_slice_get, slice_get_within}

-- the letters from one place earlier on have the letter at that place in front
pub letter_more : (letters : List ℕ) (left code : ℕ) → 0 < left → slice_get letters (left - 1) ≡ Some code → code ∷ drop left letters ≡ drop (left - 1) letters
letter_more letters left code some h =
    let at : suc (left - 1) ≡ left = omega arith in
    sym (drop-cons letters (left - 1) code (slice_get_within letters (left - 1) code h)
    ∙ (λ i. get_or_from_slice_get letters (left - 1) code code h i ∷ drop (at i) letters))
