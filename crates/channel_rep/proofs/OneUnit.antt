-- Lemmas for the crates above: lines with one entry that is 1 or −1.
use Rattle.std.proofs.Common.{◌≡◌, ℕ, ◌+◌, ◌*◌, ◌<◌, ◌&&◌, List, Bool, true, false, refl, ap, sym, ◌∙◌, subst, inl, inr, arith}
use Rattle.std.specs.Ordering.{int_eq}
use Rattle.std.specs.Bool.{MatchBool}
use Rattle.std.proofs.lemmas.Bool.{cases_eq, and_parts, and_from, true≢false, MatchBool-at_true, MatchBool-at_false}
use Rattle.std.proofs.lemmas.Bool.Decides.{Decides-int_eq}
use Rattle.std.proofs.lemmas.Int.{ints}
use Rattle.tc_ring.specs.Surds.{Surd, surd_integer, surd_negative, zero_surd, one_surd}
use Rattle.tc_ring.proofs.Surds.{same_surd}
use Rattle.channel_rep.specs.Tables.{signed}
use Rattle.channel_rep.specs.Cells.{IsUnit, HasOneUnit, cell_of, entries}
use Rattle.tc_ring.specs.declared.root2.Root2.{Root2}

-- what a comparison by both parts tells
pub same_by_parts : (x y : Surd) (r : Bool) → r ≡ (int_eq x.a y.a && int_eq x.b y.b) → (r ≡ true → x ≡ y) × (x ≡ y → r ≡ true)
same_by_parts x y r e = (
  λ t. let both = and_parts (int_eq x.a y.a) (int_eq x.b y.b) (sym e ∙ t) in same_surd ((Decides-int_eq x.a y.a).0 both.0) ((Decides-int_eq x.b y.b).0 both.1),
  λ q. e ∙ and_from (int_eq x.a y.a) (int_eq x.b y.b) ((Decides-int_eq x.a y.a).1 (ap (λ (s : Surd). s.a) q)) ((Decides-int_eq x.b y.b).1 (ap (λ (s : Surd). s.b) q)),
)

-- neither 1 nor −1 is 0
pub unit_is_not_zero : (x : Surd) → IsUnit x → x ≡ zero_surd → ⊥
unfolding surd_integer surd_negative
unit_is_not_zero x u z = elim u [
  | inl e ↦ (let h = ap (λ (s : Surd). s.a) (sym e ∙ z) in omega (arith, ints))
  | inr e ↦ (let h = ap (λ (s : Surd). s.a) (sym e ∙ z) in omega (arith, ints))
]

-- one unit among the same numbers
pub same_unit : (size : ℕ) (f g : ℕ → Surd) → ((k : ℕ) → k < size → g k ≡ f k) → HasOneUnit size f → HasOneUnit size g
same_unit size f g e h = record {
  place = h.place;
  below = h.below;
  unit = subst IsUnit (sym (e h.place h.below)) h.unit;
  others = λ k l d. e k l ∙ h.others k l d;
}

module _ (f : ℕ → Surd) where
  -- zeros, and one more
  pub more_zero : (i : ℕ) → ((k : ℕ) → k < i → f k ≡ zero_surd) → f i ≡ zero_surd → (k : ℕ) → k < i + 1 → f k ≡ zero_surd
  more_zero i before here k l = elim (cases_eq k i) [ inl e ↦ ap f e ∙ here | inr d ↦ before k (omega arith) ]

  -- one unit, and then a zero
  pub one_and_zero : (i : ℕ) → HasOneUnit i f → f i ≡ zero_surd → HasOneUnit (i + 1) f
  one_and_zero i h here =
      let inside = h.below in
      record {
        place = h.place;
        below = omega arith;
        unit = h.unit;
        others = λ k l d. elim (cases_eq k i) [ inl e ↦ ap f e ∙ here | inr n ↦ h.others k (omega arith) d ];
      }

  -- zeros, and then a unit
  pub first_unit : (i : ℕ) → ((k : ℕ) → k < i → f k ≡ zero_surd) → IsUnit (f i) → HasOneUnit (i + 1) f
  first_unit i before here = record { place = i; below = omega arith; unit = here; others = λ k l d. before k (omega arith) }

  -- a second entry other than 0 is one too many
  pub not_two : (i size : ℕ) → i < size → HasOneUnit i f → (f i ≡ zero_surd → ⊥) → HasOneUnit size f → ⊥
  not_two i size l h here whole =
      let inside = h.below in
      elim (cases_eq i whole.place) [
        | inl e ↦ unit_is_not_zero (f h.place) h.unit (whole.others h.place (omega arith) (λ q. omega arith))
        | inr d ↦ here (whole.others i l d)
      ]

  -- an entry that is neither 0 nor a unit
  pub not_other : (i size : ℕ) → i < size → (f i ≡ zero_surd → ⊥) → (IsUnit (f i) → ⊥) → HasOneUnit size f → ⊥
  not_other i size l here unit whole = elim (cases_eq i whole.place) [
    | inl e ↦ unit (subst (λ k. IsUnit (f k)) (sym e) whole.unit)
    | inr d ↦ here (whole.others i l d)
  ]

  -- zeros alone
  pub not_none : (size : ℕ) → ((k : ℕ) → k < size → f k ≡ zero_surd) → HasOneUnit size f → ⊥
  not_none size before whole = unit_is_not_zero (f whole.place) whole.unit (before whole.place whole.below)

-- along equal entries
pub one_unit_to : (size : ℕ) (f g : ℕ → Surd) → ((k : ℕ) → k < size → f k ≡ g k) → HasOneUnit size f → HasOneUnit size g
one_unit_to size f g e h = record {
  place = h.place;
  below = h.below;
  unit = subst IsUnit (e h.place h.below) h.unit;
  others = λ k l d. sym (e k l) ∙ h.others k l d;
}

-- a test for 1, and then one for −1
pub first_of_units : (x : Surd) (r : Bool) → (r ≡ true → x ≡ one_surd) × (x ≡ one_surd → r ≡ true) → r ≡ true → (r ≡ true → IsUnit x) × (IsUnit x → r ≡ true)
first_of_units x r h t = (λ _. inl (h.0 t), λ _. t)

-- where the first test failed
pub second_of_units : (x : Surd) (r s : Bool) → (r ≡ true → x ≡ one_surd) × (x ≡ one_surd → r ≡ true) → (s ≡ true → x ≡ surd_negative one_surd) × (x ≡ surd_negative one_surd → s ≡ true) → r ≡ false
    → (s ≡ true → IsUnit x) × (IsUnit x → s ≡ true)
second_of_units x r s h g f = (λ t. inr (g.0 t), λ u. elim u [ inl e ↦ absurd (true≢false (sym (h.1 e) ∙ f)) | inr e ↦ g.1 e ])

-- ---- a walk along a line
-- one of the first i entries is 1 or −1 and the others are 0, or all of them are 0
abbrev pub Seen : (ℕ → Surd) → ℕ → Bool → Type 0
Seen f i found = MatchBool found (HasOneUnit i f) ((k : ℕ) → k < i → f k ≡ zero_surd)

-- one step, at a zero
pub seen_zero : (f : ℕ → Surd) (i : ℕ) (found after : Bool) → after ≡ found → f i ≡ zero_surd → Seen f i found → Seen f (i + 1) after
seen_zero f i found after e here h = subst (Seen f (i + 1)) (sym e) (by found h)
  where
    by : (found : Bool) → Seen f i found → Seen f (i + 1) found
    by true h = one_and_zero f i h here
    by false h = more_zero f i h here

-- one step, at the first unit
pub seen_unit : (f : ℕ → Surd) (i : ℕ) (found after : Bool) → found ≡ false → after ≡ true → IsUnit (f i) → Seen f i found → Seen f (i + 1) after
seen_unit f i found after e d here h = subst (Seen f (i + 1)) (sym d) (first_unit f i (MatchBool-at_false _ _ e h) here)

-- at the end of the line
pub seen_all : (f : ℕ → Surd) (i size : ℕ) (found : Bool) → i ≡ size → Seen f i found → (found ≡ true → HasOneUnit size f) × (HasOneUnit size f → found ≡ true)
seen_all f i size found e h = subst (λ n. (found ≡ true → HasOneUnit n f) × (HasOneUnit n f → found ≡ true)) e (by found h)
  where
    by : (found : Bool) → Seen f i found → (found ≡ true → HasOneUnit i f) × (HasOneUnit i f → found ≡ true)
    by true h = (λ _. h, λ _. refl)
    by false h = (λ t. absurd (true≢false (sym t)), λ g. absurd (not_none f i h g))

-- a second entry that is not 0, or one that is neither 0 nor 1 nor −1
pub seen_two : (f : ℕ → Surd) (i size : ℕ) (found : Bool) → i < size → found ≡ true → (f i ≡ zero_surd → ⊥) → Seen f i found → (false ≡ true → HasOneUnit size f) × (HasOneUnit size f → false ≡ true)
seen_two f i size found l e here h = (λ t. absurd (true≢false (sym t)), λ g. absurd (not_two f i size l (MatchBool-at_true _ _ e h) here g))

-- where the walk stops at an entry that is no unit
pub seen_other : (f : ℕ → Surd) (i size : ℕ) → i < size → (f i ≡ zero_surd → ⊥) → (IsUnit (f i) → ⊥) → (false ≡ true → HasOneUnit size f) × (HasOneUnit size f → false ≡ true)
seen_other f i size l here unit = (λ t. absurd (true≢false (sym t)), λ g. absurd (not_other f i size l here unit g))

-- ---- the lines of a table
row_place : (size : ℕ) (cells : List Root2) (line k : ℕ) → cell_of cells (line * size + k * 1) ≡ entries size cells line k
row_place size cells line k = let e : line * size + k * 1 ≡ line * size + k = omega arith in ap (cell_of cells) e

-- the place of a cell in a column
column_place : (size : ℕ) (cells : List Root2) (line k : ℕ) → cell_of cells (line * 1 + k * size) ≡ entries size cells k line
column_place size cells line k = let e : line * 1 + k * size ≡ k * size + line = omega arith in ap (cell_of cells) e

-- lines along the rows, as rows
pub rows_from_lines : (size : ℕ) (cells : List Root2) → ((line : ℕ) → line < size → HasOneUnit size (λ k. cell_of cells (line * size + k * 1))) → (row : ℕ) → row < size → HasOneUnit size (λ column. entries size cells row column)
rows_from_lines size cells h row l = one_unit_to size _ _ (λ k m. row_place size cells row k) (h row l)

-- and back
pub lines_from_rows : (size : ℕ) (cells : List Root2) → ((row : ℕ) → row < size → HasOneUnit size (λ column. entries size cells row column)) → (line : ℕ) → line < size → HasOneUnit size (λ k. cell_of cells (line * size + k * 1))
lines_from_rows size cells h line l = one_unit_to size _ _ (λ k m. sym (row_place size cells line k)) (h line l)

-- lines along the columns, as columns
pub columns_from_lines : (size : ℕ) (cells : List Root2) → ((line : ℕ) → line < size → HasOneUnit size (λ k. cell_of cells (line * 1 + k * size))) → (column : ℕ) → column < size → HasOneUnit size (λ row. entries size cells row column)
columns_from_lines size cells h column l = one_unit_to size _ _ (λ k m. column_place size cells column k) (h column l)

-- and back
pub lines_from_columns : (size : ℕ) (cells : List Root2) → ((column : ℕ) → column < size → HasOneUnit size (λ row. entries size cells row column)) → (line : ℕ) → line < size → HasOneUnit size (λ k. cell_of cells (line * 1 + k * size))
lines_from_columns size cells h line l = one_unit_to size _ _ (λ k m. sym (column_place size cells line k)) (h line l)

-- the sign of 1 or −1
pub unit_sign : (x : Surd) (b : Bool) → IsUnit x → (b ≡ true → x ≡ surd_negative one_surd) × (x ≡ surd_negative one_surd → b ≡ true) → x ≡ signed b one_surd
unfolding signed
unit_sign x b u h = by b u h.0 h.1
  where
    by : (b : Bool) → IsUnit x → (b ≡ true → x ≡ surd_negative one_surd) → (x ≡ surd_negative one_surd → b ≡ true) → x ≡ signed b one_surd
    by true u is back = is refl
    by false u is back = elim u [ inl e ↦ e | inr e ↦ absurd (true≢false (sym (back e))) ]

-- an entry that isn't 0 is the one that is 1 or −1
pub unit_here : (f : ℕ → Surd) (i size : ℕ) → i < size → HasOneUnit size f → (f i ≡ zero_surd → ⊥) → IsUnit (f i)
unit_here f i size l h here = elim (cases_eq i h.place) [
  | inl e ↦ subst (λ k. IsUnit (f k)) (sym e) h.unit
  | inr d ↦ absurd (here (h.others i l d))
]
