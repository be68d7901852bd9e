-- Lemmas for the crates above: the lead row of a column: that of its first entry other than 0, which decides its sign.
use Rattle.std.proofs.Common.{◌≡◌, ◌≢◌, ℕ, zero, suc, ◌+◌, ◌<◌, ◌≤◌, Bool, false, [], ◌∷◌, refl, ap, sym, ◌∙◌, inl, inr, arith}
use Rattle.std.specs.Prelude.{ℤ, pos, negsuc}
use Rattle.std.proofs.lemmas.Bool.{cases_eq}
use Rattle.tc_ring.specs.Surds.{Surd, surd, surd_integer, zero_surd}
use Rattle.coset_label.specs.Labels.{Column, numbers_from, leads_negative}

-- the sign of a cell: whether its first number other than 0 is negative
abbrev pub cell_sign : Surd → Bool
cell_sign x = leads_negative (x.a ∷ x.b ∷ [])

-- a cell other than 0 decides the sign of the numbers from it on
leads_here : (a b : ℤ) (rest : Column) → surd a b ≢ zero_surd → leads_negative (a ∷ b ∷ rest) ≡ leads_negative (a ∷ b ∷ [])
unfolding surd_integer
leads_here (pos (suc _)) b rest other = refl
leads_here (negsuc _) b rest other = refl
leads_here (pos zero) (pos (suc _)) rest other = refl
leads_here (pos zero) (negsuc _) rest other = refl
leads_here (pos zero) (pos zero) rest other = absurd (other refl)

-- a cell that is 0 leaves it to those behind
leads_behind : (x : Surd) (rest : Column) → x ≡ zero_surd → leads_negative (x.a ∷ x.b ∷ rest) ≡ leads_negative rest
unfolding surd_integer
leads_behind x rest e = ap (λ (y : Surd). leads_negative (y.a ∷ y.b ∷ rest)) e

-- where all cells before the lead row are 0, the sign is that of the cell there
pub sign_at_lead : (cell : ℕ → Surd) (row count lead : ℕ) → row ≤ lead → lead < row + count → ((r : ℕ) → row ≤ r → r < lead → cell r ≡ zero_surd) → cell lead ≢ zero_surd
    → leads_negative (numbers_from cell row count) ≡ cell_sign (cell lead)
sign_at_lead cell row zero lead from below zeros other = absurd (omega arith)
sign_at_lead cell row (suc count) lead from below zeros other = elim (cases_eq row lead) [
  | inl e ↦ leads_here (cell row).a (cell row).b _ (λ z. other (ap cell (sym e) ∙ z)) ∙ ap (λ r. cell_sign (cell r)) e
  | inr d ↦ leads_behind (cell row) _ (zeros row (omega arith) (omega arith))
      ∙ sign_at_lead cell (row + 1) count lead (omega arith) (omega arith) (λ r l m. zeros r (omega arith) m) other
]

-- where all cells are 0, the sign isn't negative
pub sign_of_zeros : (cell : ℕ → Surd) (row count : ℕ) → ((r : ℕ) → row ≤ r → r < row + count → cell r ≡ zero_surd) → leads_negative (numbers_from cell row count) ≡ false
sign_of_zeros cell row zero zeros = refl
sign_of_zeros cell row (suc count) zeros =
    leads_behind (cell row) _ (zeros row (omega arith) (omega arith)) ∙ sign_of_zeros cell (row + 1) count (λ r l m. zeros r (omega arith) (omega arith))
