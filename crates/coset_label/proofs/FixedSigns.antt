-- Columns with a fixed sign: a column has the same one as its negative, and as no other column.
use Rattle.std.proofs.Common.{◌≡◌, Bool, true, false, not, [], ◌∷◌, refl, ap, sym, ◌∙◌, inl, inr}
use Rattle.std.specs.Prelude.{zero, suc, ◌⊎◌, pos, negsuc, neg_ℤ, map}
use Rattle.std.proofs.Math.IntN.{neg_ℤ-neg_ℤ}
use Rattle.channel_rep.specs.Tables.{turned_over}
use Rattle.coset_label.specs.Labels.{Column, leads_negative, with_fixed_sign}
use Rattle.coset_label.specs.Scratch.{turned_column}

-- the negative of the negative
negative-twice : (column : Column) → map neg_ℤ (map neg_ℤ column) ≡ column
negative-twice [] = refl
negative-twice (x ∷ xs) = λ i. neg_ℤ-neg_ℤ x i ∷ negative-twice xs i

-- two signs are one
turned-turned : (b d : Bool) (column : Column) → turned_column b (turned_column d column) ≡ turned_column (turned_over b d) column
turned-turned true true column = negative-twice column
turned-turned true false column = refl
turned-turned false d column = refl

-- a sign taken twice
turned-twice : (b : Bool) (column : Column) → turned_column b (turned_column b column) ≡ column
turned-twice true column = negative-twice column
turned-twice false column = refl

-- the negative leads with the other sign, where a column isn't its own negative
negative_leads : (column : Column) → (leads_negative (map neg_ℤ column) ≡ not (leads_negative column)) ⊎ (map neg_ℤ column ≡ column)
negative_leads [] = inr refl
negative_leads (pos zero ∷ xs) = elim (negative_leads xs) [ inl e ↦ inl e | inr e ↦ inr (ap (λ ys. pos zero ∷ ys) e) ]
negative_leads (pos (suc _) ∷ xs) = inl refl
negative_leads (negsuc _ ∷ xs) = inl refl

-- a column and its negative have one fixed sign
with_fixed_sign-negative : (column : Column) → with_fixed_sign (map neg_ℤ column) ≡ with_fixed_sign column
with_fixed_sign-negative column = elim (negative_leads column) [
  | inl e ↦ ap (λ b. turned_column b (map neg_ℤ column)) e ∙ other_way (leads_negative column)
  | inr e ↦ ap with_fixed_sign e
]
  where
    other_way : (b : Bool) → turned_column (not b) (map neg_ℤ column) ≡ turned_column b column
    other_way true = refl
    other_way false = negative-twice column

-- whatever the sign
pub with_fixed_sign-turned : (b : Bool) (column : Column) → with_fixed_sign (turned_column b column) ≡ with_fixed_sign column
with_fixed_sign-turned true column = with_fixed_sign-negative column
with_fixed_sign-turned false column = refl

-- columns with one fixed sign are equal up to sign
pub same_up_to_sign : (c d : Column) → with_fixed_sign c ≡ with_fixed_sign d → c ≡ turned_column (turned_over (leads_negative c) (leads_negative d)) d
same_up_to_sign c d e = sym (turned-twice (leads_negative c) c) ∙ ap (turned_column (leads_negative c)) e ∙ turned-turned (leads_negative c) (leads_negative d) d
