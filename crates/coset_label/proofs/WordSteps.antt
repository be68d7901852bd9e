-- The steps of a word, letter by letter from the last.
use Rattle.std.proofs.Common.{◌≡◌, ℕ, suc, ◌-◌, ◌<◌, List, [], ◌∷◌, ◌++◌, drop, slice_get, Some, ap, sym, ◌∙◌, arith}
use Rattle.std.proofs.Math.Seq.{drop-cons}
use Rattle.std.proofs.lemmas.Option.{get_or_from_slice_get, slice_get_within}
use Rattle.channel_rep.specs.Tables.{by_rotation}
use Rattle.coset_label.specs.Words.{word_steps}

-- one letter more in front is one step more at the end
pub steps_more : (letters : List ℕ) (left code : ℕ) → 0 < left → slice_get letters (left - 1) ≡ Some code → word_steps (drop left letters) ++ by_rotation code ∷ [] ≡ word_steps (drop (left - 1) letters)
steps_more letters left code some h =
    let at : suc (left - 1) ≡ left = omega arith in
    let front : drop (left - 1) letters ≡ code ∷ drop left letters =
    drop-cons letters (left - 1) code (slice_get_within letters (left - 1) code h)
    ∙ (λ i. get_or_from_slice_get letters (left - 1) code code h i ∷ drop (at i) letters) in
    sym (ap word_steps front)
