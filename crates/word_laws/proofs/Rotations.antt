-- A rotation of a table, row by row: the pairs of rows that anticommute with it, and tables that agree.
use Rattle.std.proofs.Common.{◌≡◌, ℕ, ◌^◌, ◌<◌, ◌≢◌, Bool, true, false, not, ap, ◌∙◌}
use Rattle.std.specs.Prelude.{if◌then◌else◌}
use Rattle.tc_ring.specs.Surds.{surd_plus, surd_times, root2_surd}
use Rattle.pauli_basis.specs.Products.{product_code, commute, anti_sign}
use Rattle.pauli_basis.proofs.Products.{product_code-lt, product_code-back, commute-back, anti_sign-back}
use Rattle.channel_rep.specs.Products.{table_product}
use Rattle.channel_rep.specs.Tables.{SurdTable, ScaledTable, SameTable, signed, turned_over}
use Rattle.channel_rep.specs.Rows.{rotated}
use Rattle.channel_rep.proofs.Independent.{mixed_row}
use Rattle.channel_rep.proofs.Signs.{turned_over-not}
use Rattle.channel_rep.proofs.Undone.{turned, step_undone}

module _ (n : ℕ) (inverse : Bool) (p : ℕ) where
  -- the sign with which a row takes its partner
  abbrev pub partner_sign : ℕ → Bool
  partner_sign row = turned_over inverse (not (anti_sign n p row))

  -- the partner takes it with the other sign
  pub mixed_partner : (m : SurdTable) (row column : ℕ) → commute n p row ≡ false
      → rotated n inverse p m (product_code p row) column ≡ surd_plus (m (product_code p row) column) (signed (not (partner_sign row)) (m row column))
  mixed_partner m row column e =
      mixed_row n inverse p m (product_code p row) column (commute-back n p row ∙ e)
      ∙ (λ i. surd_plus (m (product_code p row) column) (signed (sign i) (m (product_code-back p row i) column)))
    where
      sign : partner_sign (product_code p row) ≡ not (partner_sign row)
      sign = ap (λ b. turned_over inverse (not b)) (anti_sign-back n p row e) ∙ turned_over-not inverse (not (anti_sign n p row))

-- tables that agree
pub rotated_agree : (n : ℕ) (inverse : Bool) (p : ℕ) → p < 4 ^ n → (f g : SurdTable) (row column : ℕ) → row < 4 ^ n → ((r : ℕ) → r < 4 ^ n → f r column ≡ g r column) → rotated n inverse p f row column ≡ rotated n inverse p g row column
unfolding rotated
rotated_agree n inverse p lp f g row column l h = by (commute n p row) (partner_sign n inverse p row)
  where
    by : (b s : Bool)
        → (if b then surd_times root2_surd (f row column) else surd_plus (f row column) (signed s (f (product_code p row) column)))
        ≡ (if b then surd_times root2_surd (g row column) else surd_plus (g row column) (signed s (g (product_code p row) column)))
    by true s = ap (surd_times root2_surd) (h row l)
    by false s = λ i. surd_plus (h row l i) (signed s (h (product_code p row) (product_code-lt n p row lp l) i))

-- the table of the other of the two, a rotation and its inverse
abbrev pub other_way : ℕ → Bool → ℕ → ScaledTable
other_way n inverse p = turned n (not inverse) p

-- which undoes it
pub undone : (n : ℕ) (inverse : Bool) (p : ℕ) → p < 4 ^ n → p ≢ 0 → (m : ScaledTable) → SameTable n (table_product n (other_way n inverse p) (table_product n (turned n inverse p) m)) m
undone n true p l d m = step_undone n false p l d m
undone n false p l d m = step_undone n true p l d m
