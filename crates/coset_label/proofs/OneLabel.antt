-- The labels of two tables with independent columns are equal exactly where the tables lie in one coset.
use Rattle.std.proofs.Common.{◌≡◌, ℕ, ◌^◌, ◌<◌, ◌≤◌, get_or, ap, sym, ◌∙◌, subst, inl, inr, arith}
use Rattle.std.specs.Cmp.{IsTotalOrder}
use Rattle.std.specs.Cmp.Lexicographic.{slice_cmp, lists_total}
use Rattle.std.specs.List.{Contains, IsDistinct}
use Rattle.std.specs.List.Sorted.{IsStrictlySortedBy}
use Rattle.std.specs.Ordering.{int_cmp, eq_by_cmp}
use Rattle.std.proofs.lemmas.Bool.{cases_Bool}
use Rattle.std.proofs.lemmas.Cmp.{int_cmp_total, eq_by_cmp_equiv}
use Rattle.std.proofs.lemmas.List.FromFn.{length-map-range_with_len, get_or-map-range_with_len}
use Rattle.std.proofs.lemmas.List.Sorted.{Contains-permutation, IsPermutation-sym}
use Rattle.std.proofs.lemmas.Map.Keys.{IsDistinct-from_apart, IsDistinct-IsPermutation}
use Rattle.std.proofs.lemmas.Map.Lookups.{CmpEqualImpliesEq, exact_signed}
use Rattle.std.proofs.lemmas.Map.Views.{tells_apart}
use Rattle.tc_ring.specs.Surds.{surd_times}
use Rattle.tc_ring.proofs.Surds.{cancel_root2_power}
use Rattle.channel_rep.specs.Tables.{SurdTable, ScaledTable, signed}
use Rattle.channel_rep.proofs.Built.{root2_to}
use Rattle.channel_rep.proofs.Independent.{HasIndependentColumns, one_column}
use Rattle.channel_rep.proofs.Least.{odd_has_least}
use Rattle.channel_rep.proofs.Signs.{times-signed}
use Rattle.coset_label.specs.Cosets.{IsColumnUpToSign, HasColumnsOf, SameCoset}
use Rattle.coset_label.specs.Labels.{Column, Label, column_of, with_fixed_sign, fixed_columns, HasLeastExponent, IsLabelOf}
use Rattle.coset_label.proofs.ColumnLists.{AgreeUpToSign, one_fixed, agree_where_fixed}
use Rattle.coset_label.proofs.RisingLists.{exact_lists, rising, same_members}

-- columns in lexicographic order
columns_total : IsTotalOrder (slice_cmp int_cmp)
columns_total = lists_total int_cmp_total

-- an order that tells all columns apart
columns_exact : CmpEqualImpliesEq (slice_cmp int_cmp)
columns_exact = exact_lists exact_signed

-- ---- the list of a table's columns
module _ (n : ℕ) (m : SurdTable) where
  -- the column, with its sign fixed
  abbrev fixed : ℕ → Column
  fixed c = with_fixed_sign (column_of n m c)

  -- each column of the table is in the list
  has_column : (c : ℕ) → c < 4 ^ n → Contains (fixed_columns n m) (fixed c)
  has_column c l = (c, omega (arith, length-map-range_with_len fixed 0 (4 ^ n)), get_or-map-range_with_len fixed 0 (4 ^ n) c c (fixed c) l (omega arith))

  -- and no other
  column_in_list : (z : Column) → Contains (fixed_columns n m) z → (c : ℕ) × (c < 4 ^ n) × (fixed c ≡ z)
  column_in_list z found =
      let l : found.0 < 4 ^ n = omega (arith, length-map-range_with_len fixed 0 (4 ^ n), found.1) in
      (found.0, l, sym (get_or-map-range_with_len fixed 0 (4 ^ n) found.0 found.0 z l (omega arith)) ∙ found.2)

  -- none twice
  columns_distinct : HasIndependentColumns (4 ^ n) m → IsDistinct (eq_by_cmp (slice_cmp int_cmp)) (fixed_columns n m)
  columns_distinct independent = IsDistinct-from_apart (eq_by_cmp (slice_cmp int_cmp)) (fixed_columns n m) (λ i j d order below.
      let long = length-map-range_with_len fixed 0 (4 ^ n) in
      let lj : j < 4 ^ n = omega arith in
      let li : i < 4 ^ n = omega arith in
      elim (cases_Bool (eq_by_cmp (slice_cmp int_cmp) (get_or (fixed_columns n m) i d) (get_or (fixed_columns n m) j d))) [
        | inl e ↦
            let equal = tells_apart columns_exact _ _ e in
            let both = sym (get_or-map-range_with_len fixed 0 (4 ^ n) i i d li (omega arith)) ∙ equal ∙ get_or-map-range_with_len fixed 0 (4 ^ n) j j d lj (omega arith) in
            let agree = agree_where_fixed n m i m j both in
            let one = one_column (4 ^ n) m independent i j li lj agree.negative agree.cells in
            absurd (omega arith)
        | inr e ↦ e
      ])

-- the columns of a label rise
label_rises : (n : ℕ) (m : ScaledTable) (label : Label) → HasIndependentColumns (4 ^ n) m.table → IsLabelOf n m label → IsStrictlySortedBy (slice_cmp int_cmp) label.columns
label_rises n m label independent is =
    rising columns_total label.columns is.sorted
    (IsDistinct-IsPermutation (eq_by_cmp (slice_cmp int_cmp)) (eq_by_cmp_equiv columns_total).symm (fixed_columns n m.table) label.columns is.columns (columns_distinct n m.table independent))

-- ---- exponents
-- a table whose columns another one has, with an exponent that is least
exponent_least : (n : ℕ) (a b : ScaledTable) → HasLeastExponent n a → HasColumnsOf n b a → a.exponent ≤ b.exponent
exponent_least n a b least columns = elim least [
  | inl none ↦ omega arith
  | inr odd ↦
      let other = columns odd.column odd.column_below in
      odd_has_least b.exponent a.exponent (signed other.2.negative (b.table odd.row other.0)) (a.table odd.row odd.column) odd.odd
      (times-signed other.2.negative (root2_to a.exponent) _ ∙ sym (other.2.cells odd.row odd.row_below))
]

-- one exponent in one coset
one_exponent : (n : ℕ) (a b : ScaledTable) → HasLeastExponent n a → HasLeastExponent n b → SameCoset n a b → a.exponent ≡ b.exponent
one_exponent n a b la lb same =
    let up = exponent_least n a b la same.there in
    let down = exponent_least n b a lb same.back in
    omega arith

-- ---- columns of tables with one exponent
module _ (n : ℕ) (a : ScaledTable) (c : ℕ) (b : ScaledTable) (d : ℕ) (equal : a.exponent ≡ b.exponent) where
  -- the power of √2 cancels
  pub agree_from_column : IsColumnUpToSign n a c b d → AgreeUpToSign n a.table c b.table d
  agree_from_column is = record {
    negative = is.negative;
    cells = λ row l. cancel_root2_power b.exponent _ _ (
        is.cells row l ∙ ap (λ k. signed is.negative (surd_times (root2_to k) (b.table row d))) equal ∙ sym (times-signed is.negative (root2_to b.exponent) (b.table row d)));
  }

  -- and can be put back
  column_from_agree : AgreeUpToSign n a.table c b.table d → IsColumnUpToSign n a c b d
  column_from_agree is = record {
    negative = is.negative;
    cells = λ row l.
        ap (surd_times (root2_to b.exponent)) (is.cells row l) ∙ times-signed is.negative (root2_to b.exponent) (b.table row d)
        ∙ ap (λ k. signed is.negative (surd_times (root2_to k) (b.table row d))) (sym equal);
  }

-- ---- labels
-- the label has the columns of one table where it has those of the other
members_go : (n : ℕ) (a b : ScaledTable) → a.exponent ≡ b.exponent → HasColumnsOf n b a → (z : Column) → Contains (fixed_columns n a.table) z → Contains (fixed_columns n b.table) z
members_go n a b equal columns z found =
    let at = column_in_list n a.table z found in
    let other = columns at.0 at.1 in
    subst (Contains (fixed_columns n b.table)) (sym (one_fixed n a.table at.0 b.table other.0 (agree_from_column n a at.0 b other.0 equal other.2)) ∙ at.2) (has_column n b.table other.0 other.1)

-- and back
columns_come : (n : ℕ) (a b : ScaledTable) → a.exponent ≡ b.exponent → ((z : Column) → Contains (fixed_columns n a.table) z → Contains (fixed_columns n b.table) z) → HasColumnsOf n b a
columns_come n a b equal go c l =
    let at = column_in_list n b.table _ (go _ (has_column n a.table c l)) in
    (at.0, at.1, column_from_agree n a c b at.0 equal (agree_where_fixed n a.table c b.table at.0 (sym at.2)))

module _ (n : ℕ) (a b : ScaledTable) (label other : Label) (is : IsLabelOf n a label) (is_other : IsLabelOf n b other) where
  -- what the one label has, the other has too
  passed_on : ((z : Column) → Contains (fixed_columns n a.table) z → Contains (fixed_columns n b.table) z) → (z : Column) → Contains label.columns z → Contains other.columns z
  passed_on go z found =
      Contains-permutation (fixed_columns n b.table) other.columns z is_other.columns
      (go z (Contains-permutation label.columns (fixed_columns n a.table) z (IsPermutation-sym (fixed_columns n a.table) label.columns is.columns) found))

  -- equal labels have the same columns
  taken_over : label ≡ other → (z : Column) → Contains (fixed_columns n a.table) z → Contains (fixed_columns n b.table) z
  taken_over equal z found =
      Contains-permutation other.columns (fixed_columns n b.table) z (IsPermutation-sym (fixed_columns n b.table) other.columns is_other.columns)
      (subst (λ (l : Label). Contains l.columns z) equal (Contains-permutation (fixed_columns n a.table) label.columns z is.columns found))

-- tables with equal labels lie in one coset
pub one_coset_of_label : (n : ℕ) (a b : ScaledTable) (label other : Label) → IsLabelOf n a label → IsLabelOf n b other → label ≡ other → SameCoset n a b
one_coset_of_label n a b label other is is_other equal =
    let exponents = sym is.exponent ∙ ap (λ (l : Label). l.exponent) equal ∙ is_other.exponent in
    record {
      there = columns_come n a b exponents (taken_over n a b label other is is_other equal);
      back = columns_come n b a (sym exponents) (taken_over n b a other label is_other is (sym equal));
    }

-- tables of one coset have one label
pub one_label_of_coset : (n : ℕ) (a b : ScaledTable) → HasIndependentColumns (4 ^ n) a.table → HasIndependentColumns (4 ^ n) b.table → (label other : Label) → IsLabelOf n a label → IsLabelOf n b other
    → SameCoset n a b → label ≡ other
one_label_of_coset n a b ha hb label other is is_other same =
    let exponents = one_exponent n a b is.least is_other.least same in
    let columns = same_members columns_total columns_exact label.columns other.columns (label_rises n a label ha is) (label_rises n b other hb is_other) (λ z. (
      passed_on n a b label other is is_other (members_go n a b exponents same.there) z,
      passed_on n b a other label is_other is (members_go n b a (sym exponents) same.back) z,
    )) in
    let exponent = is.exponent ∙ exponents ∙ sym is_other.exponent in
    λ i. record { exponent = exponent i; columns = columns i }
