-- Lemmas for the crates above: the columns of a circuit's label rise strictly.
use Rattle.std.proofs.Common.{ℕ, ◌^◌, ◌<◌, get_or, sym, ◌∙◌, arith, inl, inr}
use Rattle.std.specs.Cmp.{IsTotalOrder}
use Rattle.std.specs.Cmp.Lexicographic.{slice_cmp, lists_total}
use Rattle.std.specs.List.{IsDistinct}
use Rattle.std.specs.List.Sorted.{IsStrictlySortedBy}
use Rattle.std.specs.Ordering.{int_cmp, eq_by_cmp}
use Rattle.std.proofs.lemmas.Bool.{cases_Bool}
use Rattle.std.proofs.lemmas.Cmp.{int_cmp_total, eq_by_cmp_equiv}
use Rattle.std.proofs.lemmas.List.FromFn.{length-map-range_with_len, get_or-map-range_with_len}
use Rattle.std.proofs.lemmas.Map.Keys.{IsDistinct-from_apart, IsDistinct-IsPermutation}
use Rattle.std.proofs.lemmas.Map.Lookups.{CmpEqualImpliesEq, exact_signed}
use Rattle.std.proofs.lemmas.Map.Views.{tells_apart}
use Rattle.channel_rep.specs.Tables.{SurdTable, ScaledTable}
use Rattle.channel_rep.proofs.Independent.{HasIndependentColumns, one_column}
use Rattle.coset_label.specs.Labels.{Column, Label, column_of, with_fixed_sign, fixed_columns, IsLabelOf}
use Rattle.coset_label.proofs.ColumnLists.{agree_where_fixed}
use Rattle.coset_label.proofs.RisingLists.{exact_lists, rising}

-- columns in lexicographic order
pub columns_total : IsTotalOrder (slice_cmp int_cmp)
columns_total = lists_total int_cmp_total

-- an order that tells all columns apart
columns_exact : CmpEqualImpliesEq (slice_cmp int_cmp)
columns_exact = exact_lists exact_signed

module _ (n : ℕ) (m : SurdTable) where
  -- the column, with its sign fixed
  abbrev pub fixed : ℕ → Column
  fixed c = with_fixed_sign (column_of n m c)

  -- none twice
  columns_distinct : HasIndependentColumns (4 ^ n) m → IsDistinct (eq_by_cmp (slice_cmp int_cmp)) (fixed_columns n m)
  columns_distinct independent = IsDistinct-from_apart (eq_by_cmp (slice_cmp int_cmp)) (fixed_columns n m) (λ i j d order below.
      let long = length-map-range_with_len fixed 0 (4 ^ n) in
      let lj : j < 4 ^ n = omega arith in
      let li : i < 4 ^ n = omega arith in
      elim (cases_Bool (eq_by_cmp (slice_cmp int_cmp) (get_or (fixed_columns n m) i d) (get_or (fixed_columns n m) j d))) [
        | inl e ↦
            let equal = tells_apart columns_exact _ _ e in
            let both = sym (get_or-map-range_with_len fixed 0 (4 ^ n) i i d li (omega arith)) ∙ equal ∙ get_or-map-range_with_len fixed 0 (4 ^ n) j j d lj (omega arith) in
            let agree = agree_where_fixed n m i m j both in
            let one = one_column (4 ^ n) m independent i j li lj agree.negative agree.cells in
            absurd (omega arith)
        | inr e ↦ e
      ])

-- the columns of a label rise
pub label_rises : (n : ℕ) (m : ScaledTable) (label : Label) → HasIndependentColumns (4 ^ n) m.table → IsLabelOf n m label → IsStrictlySortedBy (slice_cmp int_cmp) label.columns
label_rises n m label independent is =
    rising columns_total label.columns is.sorted
    (IsDistinct-IsPermutation (eq_by_cmp (slice_cmp int_cmp)) (eq_by_cmp_equiv columns_total).symm (fixed_columns n m.table) label.columns is.columns (columns_distinct n m.table independent))
