-- Lemmas for the crates above: two tables lie in one coset exactly where they differ by a signed permutation of the columns.
use Rattle.std.proofs.Common.{◌≡◌, ◌≢◌, ℕ, ◌^◌, ◌<◌, Bool, true, false, refl, ap, sym, ◌∙◌, subst, inl, inr, arith}
use Rattle.std.proofs.lemmas.Bool.{cases_eq, cases_lt}
use Rattle.ring_laws.specs.Matrix.{product, identity}
use Rattle.ring_laws.proofs.Ring.{mul-zero}
use Rattle.ring_laws.proofs.Sums.{sum_single}
use Rattle.tc_ring.specs.Surds.{Surd, surds, surd_times, surd_negative, zero_surd, one_surd}
use Rattle.tc_ring.proofs.Surds.{surds_laws, surd_times-one}
use Rattle.channel_rep.specs.Cells.{IsUnit, HasOneUnit}
use Rattle.channel_rep.specs.Tables.{SurdTable, ScaledTable, signed}
use Rattle.channel_rep.proofs.Built.{root2_to}
use Rattle.channel_rep.proofs.Independent.{HasIndependentColumns, one_column, signed_column}
use Rattle.channel_rep.proofs.OneUnit.{unit_is_not_zero}
use Rattle.channel_rep.proofs.Rules.{one_at, zero_at}
use Rattle.channel_rep.proofs.Signs.{signed-zero, times-signed}
use Rattle.coset_label.specs.Cosets.{IsColumnUpToSign, HasColumnsOf, SameCoset, DiffersByPermutation}
use Rattle.coset_label.proofs.OneCoset.{column_trans, column_sym}
use Rattle.coset_label.proofs.OneLabel.{agree_from_column}

-- ---- from a coset to a permutation
-- a column of b that is, up to sign, the column of a
record Partner (n : ℕ) (a b : ScaledTable) (column : ℕ) : Type 0 where
  pub other : ℕ
  pub negative : Bool
  pub below : column < 4 ^ n → other < 4 ^ n
  pub is : column < 4 ^ n → (row : ℕ) → row < 4 ^ n
      → surd_times (root2_to b.exponent) (a.table row column) ≡ signed negative (surd_times (root2_to a.exponent) (b.table row other))

-- one for each column, and any for those past the size
partner : (n : ℕ) (a b : ScaledTable) → HasColumnsOf n b a → (column : ℕ) → Partner n a b column
partner n a b columns column = elim (cases_lt column (4 ^ n)) [
  | inl l ↦ (let at = columns column l in record { other = at.0; negative = at.2.negative; below = λ _. at.1; is = λ _. at.2.cells })
  | inr past ↦ record { other = 0; negative = false; below = λ l. absurd (omega arith); is = λ l. absurd (omega arith) }
]

-- 1 with a sign
signed_unit : (b : Bool) (x : Surd) → x ≡ one_surd → IsUnit (signed b x)
unfolding signed
signed_unit true x e = inr (ap surd_negative e)
signed_unit false x e = inl e

-- a column is no other column of its own table
own_column : (n : ℕ) (a : ScaledTable) → HasIndependentColumns (4 ^ n) a.table → (p q : ℕ) → p < 4 ^ n → q < 4 ^ n → IsColumnUpToSign n a p a q → p ≡ q
own_column n a independent p q lp lq is =
    let agree = agree_from_column n a p a q refl is in
    one_column (4 ^ n) a.table independent p q lp lq agree.negative agree.cells

module _ (n : ℕ) (a b : ScaledTable) (ha : HasIndependentColumns (4 ^ n) a.table) (hb : HasIndependentColumns (4 ^ n) b.table) (same : SameCoset n a b) where
  -- the partner of each column of a
  chosen : (column : ℕ) → Partner n a b column
  chosen column = partner n a b same.there column

  -- it is a column of b
  chosen_column : (c : ℕ) → c < 4 ^ n → IsColumnUpToSign n a c b (chosen c).other
  chosen_column c l = record { negative = (chosen c).negative; cells = (chosen c).is l }

  -- column by column, 1 or −1 in the row of the partner
  moves : SurdTable
  moves row column = signed (chosen column).negative (identity surds row (chosen column).other)

  -- outside that row are zeros
  no_move : (row column : ℕ) → row ≢ (chosen column).other → moves row column ≡ zero_surd
  unfolding moves
  no_move row column d = ap (signed (chosen column).negative) (zero_at row (chosen column).other d) ∙ signed-zero (chosen column).negative

  -- a column has one unit
  moves_column : (column : ℕ) → column < 4 ^ n → HasOneUnit (4 ^ n) (λ row. moves row column)
  unfolding moves
  moves_column column l = record {
    place = (chosen column).other;
    below = (chosen column).below l;
    unit = signed_unit (chosen column).negative _ (one_at _ _ refl);
    others = λ row m d. no_move row column d;
  }

  -- a row has one unit, where its column of b is one of a
  moves_row : (row : ℕ) → row < 4 ^ n → HasOneUnit (4 ^ n) (λ column. moves row column)
  unfolding moves
  moves_row row l =
      let from = same.back row l in
      let c = from.0 in
      let returns = own_column n b hb row (chosen c).other l ((chosen c).below from.1) (column_trans n b a b row c (chosen c).other from.2 (chosen_column c from.1)) in
      record {
        place = c;
        below = from.1;
        unit = signed_unit (chosen c).negative _ (one_at row (chosen c).other returns);
        others = λ k m d. no_move row k (λ e. d (own_column n a ha k c m from.1 (column_trans n a b a k row c (subst (λ j. IsColumnUpToSign n a k b j) (sym e) (chosen_column k m)) from.2)));
      }

  -- tables of one coset differ by a signed permutation
  pub permutation_of_coset : DiffersByPermutation n a b
  unfolding moves product
  permutation_of_coset = record {
    permutation = moves;
    is = record { rows = moves_row; columns = moves_column };
    product_is = λ row column l m.
        (chosen column).is m row l ∙ sym (times-signed (chosen column).negative (root2_to a.exponent) _)
        ∙ ap (surd_times (root2_to a.exponent)) (sym (signed_column (4 ^ n) (chosen column).negative b.table row (chosen column).other ((chosen column).below m)));
  }

-- ---- from a permutation to a coset
-- the sign of a unit
record SignOfUnit (x : Surd) : Type 0 where
  pub negative : Bool
  pub is : x ≡ signed negative one_surd

-- each unit has one
sign_of_unit : (x : Surd) → IsUnit x → SignOfUnit x
unfolding signed
sign_of_unit x unit = elim unit [ inl e ↦ record { negative = false; is = e } | inr e ↦ record { negative = true; is = e } ]

-- a table times a column with one unit
times_unit_column : (size : ℕ) (m p : SurdTable) (row column : ℕ) (one : HasOneUnit size (λ k. p k column))
    → product surds size m p row column ≡ signed (sign_of_unit _ one.unit).negative (m row one.place)
unfolding product
times_unit_column size m p row column one =
    let sign = sign_of_unit _ one.unit in
    sum_single surds_laws size one.place (λ k. surd_times (m row k) (p k column)) one.below (λ k l d. ap (surd_times (m row k)) (one.others k l d) ∙ mul-zero surds_laws (m row k))
    ∙ ap (surd_times (m row one.place)) sign.is ∙ times-signed sign.negative (m row one.place) one_surd ∙ ap (signed sign.negative) (surd_times-one (m row one.place))

module _ (n : ℕ) (a b : ScaledTable) (differs : DiffersByPermutation n a b) where
  -- a column of a is that column of b that the permutation moves there
  moved_column : (c : ℕ) (l : c < 4 ^ n) → IsColumnUpToSign n a c b (differs.is.columns c l).place
  moved_column c l =
      let one = differs.is.columns c l in
      record {
        negative = (sign_of_unit _ one.unit).negative;
        cells = λ row m.
            differs.product_is row c m l ∙ ap (surd_times (root2_to a.exponent)) (times_unit_column (4 ^ n) b.table differs.permutation row c one)
            ∙ times-signed _ (root2_to a.exponent) (b.table row one.place);
      }

  -- the unit of a row is the unit of its column
  one_place : (row : ℕ) (l : row < 4 ^ n) → (differs.is.columns (differs.is.rows row l).place (differs.is.rows row l).below).place ≡ row
  one_place row l =
      let one = differs.is.rows row l in
      let column = differs.is.columns one.place one.below in
      elim (cases_eq column.place row) [
        | inl e ↦ e
        | inr d ↦ absurd (unit_is_not_zero _ one.unit (column.others row l (λ e. d (sym e))))
      ]

  -- tables that differ by a signed permutation lie in one coset
  pub coset_of_permutation : SameCoset n a b
  coset_of_permutation = record {
    there = λ c l. ((differs.is.columns c l).place, (differs.is.columns c l).below, moved_column c l);
    back = λ row l.
        let one = differs.is.rows row l in
        (one.place, one.below, column_sym n a b one.place row (subst (λ j. IsColumnUpToSign n a one.place b j) (one_place row l) (moved_column one.place one.below)));
  }
