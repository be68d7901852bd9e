-- Lemmas for the crates above: the least exponent of a coset is at most that of each of its tables, and the length of each
-- of its words.
use Rattle.std.proofs.Common.{◌≡◌, ℕ, ◌+◌, ◌≤◌, List, [], ◌∷◌, length, refl, ap, sym, ◌∙◌, inl, inr, arith}
use Rattle.channel_rep.specs.Tables.{ScaledTable, by_rotation, signed}
use Rattle.channel_rep.specs.Products.{identity_table}
use Rattle.channel_rep.proofs.Built.{root2_to}
use Rattle.channel_rep.proofs.Least.{odd_has_least}
use Rattle.channel_rep.proofs.Products.{built_on-append}
use Rattle.channel_rep.proofs.Signs.{times-signed}
use Rattle.coset_label.specs.Cosets.{SameCoset}
use Rattle.coset_label.specs.Labels.{HasLeastExponent}
use Rattle.coset_label.specs.Words.{word_steps, word_channel}

-- a table of the coset
pub least_of_coset : (n : ℕ) (a b : ScaledTable) → HasLeastExponent n a → SameCoset n a b → a.exponent ≤ b.exponent
least_of_coset n a b least same = elim least [
  | inl none ↦ omega arith
  | inr odd ↦
      let other = same.there odd.column odd.column_below in
      odd_has_least b.exponent a.exponent (signed other.2.negative (b.table odd.row other.0)) (a.table odd.row odd.column) odd.odd
      (times-signed other.2.negative (root2_to a.exponent) _ ∙ sym (other.2.cells odd.row odd.row_below))
]

-- the exponent of a word's channel, one for each letter
word_exponent : (n : ℕ) (w : List ℕ) → (word_channel n w).exponent ≡ length w
word_exponent n [] = refl
word_exponent n (p ∷ w) =
    let e : (word_channel n (p ∷ w)).exponent ≡ 1 + (word_channel n w).exponent = ap (λ (t : ScaledTable). t.exponent) (built_on-append n (word_steps w) (by_rotation p ∷ []) identity_table) in
    omega (arith, e, word_exponent n w)

-- a word of the coset
pub least_of_words : (n : ℕ) (m : ScaledTable) → HasLeastExponent n m → (w : List ℕ) → SameCoset n m (word_channel n w) → m.exponent ≤ length w
least_of_words n m least w same = let l = least_of_coset n m (word_channel n w) least same in omega (arith, l, word_exponent n w)
