-- Runs of numbers: a number more at the end of one, and a column more behind the others.
use Rattle.std.proofs.Common.{◌≡◌, ℕ, zero, suc, ◌+◌, ◌-◌, ◌*◌, ◌<◌, ◌≤◌, Bool, true, false, List, [], ◌∷◌, length, slice_index, slice_index_or, refl, ap, sym, ◌∙◌, subst, inl, inr, arith}
use Rattle.std.specs.Prelude.{ℤ, pos, ◌+ℤ◌, ◌*ℤ◌, not}
use Rattle.std.specs.Int.{from_bool}
use Rattle.std.proofs.Math.ListN.{set, length-set}
use Rattle.std.proofs.lemmas.List.{get_or-set_same, get_or-set_other}
use Rattle.std.proofs.lemmas.Grind.{get_or-set_at}
use Rattle.std.proofs.lemmas.Bool.{cases_eq, true≢false}
use Rattle.ring_laws.specs.Matrix.{sum}
use Rattle.ring_laws.specs.Ring.{integers}
use Rattle.ring_laws.proofs.Integers.{integers_laws}
use Rattle.ring_laws.proofs.Reader.{ring, reads}
use Rattle.ring_laws.proofs.Sums.{sum_cong}
use Rattle.channel_rep.specs.Tables.{SurdTable}
use Rattle.quick_label.specs.Columns.{RowsBelow, run_sum}
use Rattle.quick_label.specs.ColumnParts.{IsKeptTo, IsRunOf, AreRuns}

-- ---- what is written
-- a row below the size in place of another
pub rows_below_set : (size place row : ℕ) (rows : List ℕ) → RowsBelow size rows → place < length rows → row < size → RowsBelow size (set rows place row)
rows_below_set size place row rows h l low k inside = elim (cases_eq k place) [
  | inl e ↦ omega (arith, get_or-set_at rows place k row 0 e l)
  | inr d ↦ omega (arith, get_or-set_other rows place k row 0 d, h k (omega (arith, length-set rows place row)))
]

-- what stands before a place stays where something is written there
pub kept_by_set : (place row : ℕ) (x : ℤ) (rows : List ℕ) (values : List ℤ) → IsKeptTo place rows (set rows place row) values (set values place x)
kept_by_set place row x rows values = record {
  same_rows = λ k l. get_or-set_other rows place k row 0 (λ e. omega arith);
  same_values = λ k l. get_or-set_other values place k x (pos 0) (λ e. omega arith);
}

-- what is kept twice is kept to the lower place
pub kept_twice : (low high : ℕ) (rows mid_rows more_rows : List ℕ) (values mid_values more_values : List ℤ) → low ≤ high
    → IsKeptTo low rows mid_rows values mid_values → IsKeptTo high mid_rows more_rows mid_values more_values → IsKeptTo low rows more_rows values more_values
kept_twice low high rows mid_rows more_rows values mid_values more_values order h i = record {
  same_rows = λ k l. i.same_rows k (omega arith) ∙ h.same_rows k l;
  same_values = λ k l. i.same_values k (omega arith) ∙ h.same_values k l;
}

-- ---- sums of runs
-- a run before what is written stays
pub run_kept : (w : ℕ → ℤ) (start end place : ℕ) (rows more_rows : List ℕ) (values more_values : List ℤ) → end ≤ place → IsKeptTo place rows more_rows values more_values
    → run_sum w more_rows more_values start (end - start) ≡ run_sum w rows values start (end - start)
run_kept w start end place rows more_rows values more_values low kept =
    sum_cong integers_laws (end - start) _ _ (λ k l. λ i. w (kept.same_rows (start + k) (omega arith) i) *ℤ kept.same_values (start + k) (omega arith) i)

times_zero : (s x : ℤ) → s ≡ s +ℤ x *ℤ pos 0
times_zero s x = ring integers_laws (s ∷ x ∷ []) (search reads depth 30 parts 0 fits 10000) tt

-- a run with a number more, or with none where it is 0
pub run_more : (w : ℕ → ℤ) (start end row step : ℕ) (number stored : ℤ) (some : Bool) (rows : List ℕ) (values : List ℤ) → start ≤ end → end < length rows → end < length values
    → stored ≡ number → (some ≡ false → number ≡ pos 0) → step ≡ from_bool some
    → run_sum w (set rows end row) (set values end stored) start (end + step - start) ≡ run_sum w rows values start (end - start) +ℤ w row *ℤ number
unfolding sum
run_more w start end row step number stored true rows values order room long is none at =
    let count : end + step - start ≡ suc (end - start) = omega arith in
    let here : start + (end - start) ≡ end = omega arith in
    ap (run_sum w (set rows end row) (set values end stored) start) count
    ∙ (λ i. run_kept w start end end rows (set rows end row) values (set values end stored) (omega arith) (kept_by_set end row stored rows values) i
    +ℤ w ((ap (slice_index (set rows end row)) here ∙ get_or-set_same rows end row 0 room) i) *ℤ (ap (λ k. slice_index_or (set values end stored) k (pos 0)) here ∙ get_or-set_same values end stored (pos 0) long ∙ is) i)
run_more w start end row step number stored false rows values order room long is none at =
    let count : end + step - start ≡ end - start = omega arith in
    ap (run_sum w (set rows end row) (set values end stored) start) count
    ∙ run_kept w start end end rows (set rows end row) values (set values end stored) (omega arith) (kept_by_set end row stored rows values)
    ∙ times_zero (run_sum w rows values start (end - start)) (w row) ∙ ap (λ x. run_sum w rows values start (end - start) +ℤ w row *ℤ x) (sym (none refl))

-- and of a block's rows, with one row more
pub block_more : (w number : ℕ → ℤ) (block : List ℕ) (k : ℕ) (before new last : ℤ) → before ≡ sum integers k (λ j. w (slice_index block j) *ℤ number (slice_index block j))
    → new ≡ before +ℤ w (slice_index block k) *ℤ last → last ≡ number (slice_index block k) → new ≡ sum integers (k + 1) (λ j. w (slice_index block j) *ℤ number (slice_index block j))
unfolding sum
block_more w number block k before new last is more at =
    let next : k + 1 ≡ suc k = omega arith in
    more ∙ (λ i. is i +ℤ w (slice_index block k) *ℤ at i) ∙ ap (λ n. sum integers n (λ j. w (slice_index block j) *ℤ number (slice_index block j))) (sym next)

-- ---- columns
-- a run of rows' numbers before what is written stays
run_of_kept : (block : List ℕ) (number : ℕ → ℤ) (start end place : ℕ) (rows more_rows : List ℕ) (values more_values : List ℤ) → end ≤ place → IsKeptTo place rows more_rows values more_values
    → IsRunOf block number rows values start end → IsRunOf block number more_rows more_values start end
run_of_kept block number start end place rows more_rows values more_values low kept run w = run_kept w start end place rows more_rows values more_values low kept ∙ run w

-- a run whose ends are known by equations
run_at : (block : List ℕ) (number : ℕ → ℤ) (start end s e : ℕ) (rows : List ℕ) (values : List ℤ) → s ≡ start → e ≡ end → IsRunOf block number rows values start end → IsRunOf block number rows values s e
run_at block number start end s e rows values a b run = subst (λ x. x) (λ i. IsRunOf block number rows values (sym a i) (sym b i)) run

-- where the first columns' runs start, up to the place behind them
pub record AreStarts (first end : ℕ) (starts : List ℕ) : Type 0 where
  pub last : slice_index starts (2 * first) ≡ end
  pub within : (run : ℕ) → run ≤ 2 * first → slice_index starts run ≤ end

module _ (m : SurdTable) (block : ℕ → List ℕ) (column end middle new : ℕ) (starts rows mid_rows more_rows : List ℕ) (values mid_values more_values : List ℤ) where
  abbrev pub next_starts : List ℕ
  next_starts = set (set starts (2 * column + 1) middle) (2 * column + 2) new

  module _ (long : 2 * column + 2 < length starts) where
    before : (run : ℕ) → run ≤ 2 * column → slice_index next_starts run ≡ slice_index starts run
    before run l =
        get_or-set_other (set starts (2 * column + 1) middle) (2 * column + 2) run new 0 (λ e. omega arith) ∙ get_or-set_other starts (2 * column + 1) run middle 0 (λ e. omega arith)

    at_middle : slice_index next_starts (2 * column + 1) ≡ middle
    at_middle = get_or-set_other (set starts (2 * column + 1) middle) (2 * column + 2) (2 * column + 1) new 0 (λ e. omega arith) ∙ get_or-set_same starts (2 * column + 1) middle 0 (omega arith)

    at_end : slice_index next_starts (2 * column + 2) ≡ new
    at_end = get_or-set_same (set starts (2 * column + 1) middle) (2 * column + 2) new 0 (omega (arith, length-set starts (2 * column + 1) middle))

    pub starts_more : end ≤ middle → middle ≤ new → AreStarts column end starts → AreStarts (column + 1) new next_starts
    starts_more low high are = record {
      last = let e : 2 * (column + 1) ≡ 2 * column + 2 = omega arith in ap (slice_index next_starts) e ∙ at_end;
      within = λ run l. elim (cases_eq run (2 * column + 2)) [
        | inl e ↦ omega (arith, ap (slice_index next_starts) e ∙ at_end)
        | inr d ↦ elim (cases_eq run (2 * column + 1)) [
          | inl e ↦ omega (arith, ap (slice_index next_starts) e ∙ at_middle)
          | inr d' ↦ (let low_run : run ≤ 2 * column = omega arith in omega (arith, before run low_run, are.within run low_run))
        ]
      ];
    }

    pub runs_more : end ≤ middle → AreStarts column end starts → IsKeptTo end rows mid_rows values mid_values → IsKeptTo middle mid_rows more_rows mid_values more_values
        → AreRuns m block column starts rows values
        → IsRunOf (block column) (λ row. (m row column).a) mid_rows mid_values end middle → IsRunOf (block column) (λ row. (m row column).b) more_rows more_values middle new
        → AreRuns m block (column + 1) next_starts more_rows more_values
    runs_more low are kept more_kept runs whole part = record {
      wholes = λ c l. elim (cases_eq c column) [
        | inl e ↦ subst (λ j. IsRunOf (block j) (λ row. (m row j).a) more_rows more_values (slice_index next_starts (2 * j)) (slice_index next_starts (2 * j + 1))) (sym e)
            (run_at (block column) (λ row. (m row column).a) end middle _ _ more_rows more_values (before (2 * column) (omega arith) ∙ are.last) at_middle
            (run_of_kept (block column) (λ row. (m row column).a) end middle middle mid_rows more_rows mid_values more_values (omega arith) more_kept whole))
        | inr d ↦
            run_at (block c) (λ row. (m row c).a) (slice_index starts (2 * c)) (slice_index starts (2 * c + 1)) _ _ more_rows more_values (before (2 * c) (omega arith)) (before (2 * c + 1) (omega arith))
            (run_of_kept (block c) (λ row. (m row c).a) _ _ end rows more_rows values more_values (are.within (2 * c + 1) (omega arith)) all_kept (runs.wholes c (omega arith)))
      ];
      parts = λ c l. elim (cases_eq c column) [
        | inl e ↦ subst (λ j. IsRunOf (block j) (λ row. (m row j).b) more_rows more_values (slice_index next_starts (2 * j + 1)) (slice_index next_starts (2 * j + 2))) (sym e)
            (run_at (block column) (λ row. (m row column).b) middle new _ _ more_rows more_values at_middle at_end part)
        | inr d ↦
            run_at (block c) (λ row. (m row c).b) (slice_index starts (2 * c + 1)) (slice_index starts (2 * c + 2)) _ _ more_rows more_values (before (2 * c + 1) (omega arith)) (before (2 * c + 2) (omega arith))
            (run_of_kept (block c) (λ row. (m row c).b) _ _ end rows more_rows values more_values (are.within (2 * c + 2) (omega arith)) all_kept (runs.parts c (omega arith)))
      ];
    }
      where
        all_kept : IsKeptTo end rows more_rows values more_values
        all_kept = kept_twice end middle rows mid_rows more_rows values mid_values more_values low kept more_kept

pub no_runs : (m : SurdTable) (block : ℕ → List ℕ) (starts rows : List ℕ) (values : List ℤ) → AreRuns m block 0 starts rows values
no_runs m block starts rows values = record { wholes = λ c l. absurd (omega arith); parts = λ c l. absurd (omega arith) }

-- a test that fails where its negation does not
pub not_false : (b : Bool) → not b ≡ false → b ≡ true
not_false true e = refl
not_false false e = absurd (true≢false e)

-- no number yet
pub no_numbers : (w : ℕ → ℤ) (rows : List ℕ) (values : List ℤ) (start : ℕ) (f : ℕ → ℤ) → run_sum w rows values start (start - start) ≡ sum integers 0 f
unfolding sum
no_numbers w rows values start f = let none : start - start ≡ 0 = omega arith in ap (run_sum w rows values start) none

pub kept_none : (start : ℕ) (rows : List ℕ) (values : List ℤ) → IsKeptTo start rows rows values values
kept_none start rows values = record { same_rows = λ k l. refl; same_values = λ k l. refl }

-- the first column starts at the first place
pub first_start : (starts : List ℕ) → 0 < length starts → AreStarts 0 0 (set starts 0 0)
first_start starts some = record {
  last = get_or-set_same starts 0 0 0 some;
  within = λ run l. let e : run ≡ 0 = omega arith in omega (arith, ap (slice_index (set starts 0 0)) e ∙ get_or-set_same starts 0 0 0 some);
}
