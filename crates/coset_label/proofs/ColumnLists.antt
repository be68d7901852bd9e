-- Lemmas for the crates above: the columns of a table as lists of numbers.
use Rattle.std.proofs.Common.{◌≡◌, ℕ, zero, suc, ◌+◌, ◌^◌, ◌<◌, ◌≤◌, Bool, ◌∷◌, refl, ap, sym, ◌∙◌, inl, inr, arith}
use Rattle.std.proofs.lemmas.Bool.{cases_eq}
use Rattle.tc_ring.specs.Surds.{Surd}
use Rattle.tc_ring.proofs.Surds.{same_surd}
use Rattle.channel_rep.specs.Tables.{SurdTable, signed, turned_over}
use Rattle.coset_label.specs.Labels.{numbers_from, column_of, leads_negative, with_fixed_sign}
use Rattle.coset_label.proofs.TurnedColumns.{turned_numbers}
use Rattle.coset_label.proofs.FixedSigns.{with_fixed_sign-turned, same_up_to_sign}

-- equal cells have equal numbers
numbers_of_cells : (cell other : ℕ → Surd) (row count : ℕ) → ((r : ℕ) → r < row + count → cell r ≡ other r) → numbers_from cell row count ≡ numbers_from other row count
numbers_of_cells cell other row zero h = refl
numbers_of_cells cell other row (suc count) h =
    λ i. (h row (omega arith) i).a ∷ (h row (omega arith) i).b ∷ numbers_of_cells cell other (row + 1) count (λ r l. h r (omega arith)) i

-- equal numbers are of equal cells
pub cells_of_numbers : (cell other : ℕ → Surd) (row count : ℕ) → numbers_from cell row count ≡ numbers_from other row count → (r : ℕ) → row ≤ r → r < row + count → cell r ≡ other r
cells_of_numbers cell other row zero e r l h = absurd (omega arith)
cells_of_numbers cell other row (suc count) e r l h = elim (cases_eq r row) [
  | inl here ↦ ap cell here ∙ same_surd (cc) (cc) ∙ ap other (sym here)
  | inr there ↦ cells_of_numbers cell other (row + 1) count (cc) r (omega arith) (omega arith)
]

-- two columns of tables agree up to sign
pub record AgreeUpToSign (n : ℕ) (a : SurdTable) (c : ℕ) (b : SurdTable) (d : ℕ) : Type 0 where
  pub negative : Bool
  pub cells : (row : ℕ) → row < 4 ^ n → a row c ≡ signed negative (b row d)

module _ (n : ℕ) (a : SurdTable) (c : ℕ) (b : SurdTable) (d : ℕ) where
  -- such columns are one once their signs are fixed
  pub one_fixed : AgreeUpToSign n a c b d → with_fixed_sign (column_of n a c) ≡ with_fixed_sign (column_of n b d)
  one_fixed agree =
      ap with_fixed_sign (numbers_of_cells _ _ 0 (4 ^ n) (λ r l. agree.cells r (omega arith)) ∙ sym (turned_numbers agree.negative (λ row. b row d) 0 (4 ^ n)))
      ∙ with_fixed_sign-turned agree.negative (column_of n b d)

  -- and only such columns are
  pub agree_where_fixed : with_fixed_sign (column_of n a c) ≡ with_fixed_sign (column_of n b d) → AgreeUpToSign n a c b d
  agree_where_fixed e =
      record {
        negative = sign;
        cells = λ row l. cells_of_numbers _ _ 0 (4 ^ n) (same_up_to_sign (column_of n a c) (column_of n b d) e ∙ turned_numbers sign (λ row. b row d) 0 (4 ^ n)) row (omega arith) (omega arith);
      }
    where
      sign : Bool
      sign = turned_over (leads_negative (column_of n a c)) (leads_negative (column_of n b d))
