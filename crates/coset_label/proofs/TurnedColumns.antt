-- Lemmas for the crates above: columns with their signs turned, cell by cell.
use Rattle.std.proofs.Common.{◌≡◌, ℕ, zero, suc, ◌+◌, Bool, true, false, ◌∷◌, map, refl}
use Rattle.std.specs.Prelude.{neg_ℤ}
use Rattle.tc_ring.specs.Surds.{Surd, surd_negative}
use Rattle.channel_rep.specs.Tables.{signed}
use Rattle.coset_label.specs.Labels.{numbers_from}
use Rattle.coset_label.specs.Scratch.{turned_column}

-- the numbers of a column with its sign turned are those of its cells with their signs turned
pub turned_numbers : (negative : Bool) (cell : ℕ → Surd) (row count : ℕ) → turned_column negative (numbers_from cell row count) ≡ numbers_from (λ r. signed negative (cell r)) row count
unfolding signed surd_negative
turned_numbers false cell row count = refl
turned_numbers true cell row count = all cell row count
  where
    all : (cell : ℕ → Surd) (row count : ℕ) → map neg_ℤ (numbers_from cell row count) ≡ numbers_from (λ r. surd_negative (cell r)) row count
    all cell row zero = refl
    all cell row (suc count) = λ i. neg_ℤ (cell row).a ∷ neg_ℤ (cell row).b ∷ all cell (row + 1) count i
