-- Lemmas for the crates above: the test tells whether two tables lie in one coset.
use Rattle.std.proofs.Common.{◌≡◌, ℕ, ◌^◌, ◌<◌, ◌⊎◌, Bool, true, false, ◌&&◌, ◌||◌, refl, ap, ◌∙◌, ⊎_elim, inl, inr}
use Rattle.std.specs.Bool.{Decides}
use Rattle.std.proofs.lemmas.Bool.Decides.{Decides-like, Decides-and, Decides-or, Decides-int_eq, Decides-below_and, Decides-below_or}
use Rattle.ring_laws.specs.Ring.{power}
use Rattle.tc_ring.specs.Surds.{Surd, surds, surd_times, root2_surd}
use Rattle.channel_rep.specs.Tables.{ScaledTable, signed}
use Rattle.coset_label.specs.Cosets.{IsColumnUpToSign, HasColumnsOf, SameCoset}
use Rattle.coset_label.specs.Decided.{at_all, at_some, same_surd, same_column, has_columns, in_one_coset}

surd_of_both : (x y : Surd) → (x.a ≡ y.a) × (x.b ≡ y.b) → x ≡ y
surd_of_both x y both = ap (λ a. record { a = a; b = x.b }) both.0 ∙ ap (λ b. record { a = y.a; b = b }) both.1

surd_decided : (x y : Surd) → Decides (same_surd x y) (x ≡ y)
surd_decided x y = Decides-like (same_surd x y) (surd_of_both x y) (λ e. (ap (λ s. s.a) e, ap (λ s. s.b) e)) (Decides-and _ _ (Decides-int_eq x.a y.a) (Decides-int_eq x.b y.b))

module _ (n : ℕ) (a b : ScaledTable) where
  -- the cells of a column are those of another with a sign
  abbrev Cells : ℕ → ℕ → Bool → Type 0
  Cells column other negative = (row : ℕ) → row < 4 ^ n
      → surd_times (power surds root2_surd b.exponent) (a.table row column) ≡ signed negative (surd_times (power surds root2_surd a.exponent) (b.table row other))

  cells_decided : (column other : ℕ) (negative : Bool) → Decides (same_column n a column b other negative) (Cells column other negative)
  cells_decided column other negative =
      let left : ℕ → Surd = λ row. surd_times (power surds root2_surd b.exponent) (a.table row column) in
      let right : ℕ → Surd = λ row. signed negative (surd_times (power surds root2_surd a.exponent) (b.table row other)) in
      Decides-below_and (λ row. same_surd (left row) (right row)) (λ row. left row ≡ right row) (at_all (λ row. same_surd (left row) (right row))) (λ row. surd_decided (left row) (right row)) refl (λ _. refl) (4 ^ n)

  up_to_sign : (column other : ℕ) → Cells column other false ⊎ Cells column other true → IsColumnUpToSign n a column b other
  up_to_sign column other either = ⊎_elim (λ c. record { negative = false; cells = c }) (λ c. record { negative = true; cells = c }) either

  sign_of : (column other : ℕ) (negative : Bool) → Cells column other negative → Cells column other false ⊎ Cells column other true
  sign_of column other false cells = inl cells
  sign_of column other true cells = inr cells

  column_decided : (column other : ℕ) → Decides (same_column n a column b other false || same_column n a column b other true) (IsColumnUpToSign n a column b other)
  column_decided column other =
      Decides-like (same_column n a column b other false || same_column n a column b other true) (up_to_sign column other) (λ c. sign_of column other c.negative c.cells)
      (Decides-or _ _ (cells_decided column other false) (cells_decided column other true))

  pub columns_decided : Decides (has_columns n b a) (HasColumnsOf n b a)
  columns_decided =
      let one : ℕ → ℕ → Bool = λ column other. same_column n a column b other false || same_column n a column b other true in
      let some : ℕ → Bool = λ column. at_some (one column) (4 ^ n) in
      Decides-below_and some (λ column. (other : ℕ) × (other < 4 ^ n) × IsColumnUpToSign n a column b other) (at_all some)
      (λ column. Decides-below_or (one column) (λ other. IsColumnUpToSign n a column b other) (at_some (one column)) (column_decided column) refl (λ _. refl) (4 ^ n)) refl (λ _. refl) (4 ^ n)

pub one_coset_decided : (n : ℕ) (a b : ScaledTable) → Decides (in_one_coset n a b) (SameCoset n a b)
unfolding in_one_coset
one_coset_decided n a b =
    Decides-like (has_columns n b a && has_columns n a b) (λ both. record { there = both.0; back = both.1 }) (λ s. (s.there, s.back)) (Decides-and _ _ (columns_decided n a b) (columns_decided n b a))
