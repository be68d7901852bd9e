-- What a worker keeps is told by its cells.
use Rattle.std.proofs.Common.{◌≡◌, ℕ, ◌^◌, ◌<◌, Bool, true, List, refl, ap}
use Rattle.std.specs.Bool.{Decides}
use Rattle.std.proofs.lemmas.Bool.Decides.{Decides-like, Decides-and, Decides-int_eq, Decides-below_and}
use Rattle.ring_laws.specs.Ring.{power}
use Rattle.tc_ring.specs.Surds.{Surd, surds, surd_times, root2_surd}
use Rattle.tc_ring.proofs.Surds.{same_surd as surds_same}
use Rattle.channel_rep.specs.Tables.{ScaledTable, SameTable}
use Rattle.coset_label.specs.Decided.{at_all, same_surd}
use Rattle.level_laws.specs.Levels.{removed, undo}
use Rattle.level_laws.proofs.Inverses.{built_on_same}
use Rattle.meet_middle.specs.Kept.{same_table}

surd_decided : (x y : Surd) → Decides (same_surd x y) (x ≡ y)
surd_decided x y = Decides-like (same_surd x y) (λ both. surds_same {x = x} {y = y} both.0 both.1) (λ e. (ap (λ s. s.a) e, ap (λ s. s.b) e)) (Decides-and _ _ (Decides-int_eq x.a y.a) (Decides-int_eq x.b y.b))

pub same_table_decided : (n : ℕ) (a b : ScaledTable) → Decides (same_table n a b) (SameTable n a b)
unfolding same_table
same_table_decided n a b =
    let left : ℕ → ℕ → Surd = λ row column. surd_times (power surds root2_surd b.exponent) (a.table row column) in
    let right : ℕ → ℕ → Surd = λ row column. surd_times (power surds root2_surd a.exponent) (b.table row column) in
    let cell : ℕ → ℕ → Bool = λ row column. same_surd (left row column) (right row column) in
    let row_same : ℕ → Type 0 = λ row. (column : ℕ) → column < 4 ^ n → left row column ≡ right row column in
    let one : (row : ℕ) → Decides (at_all (cell row) (4 ^ n)) (row_same row) =
    λ row. Decides-below_and (cell row) (λ column. left row column ≡ right row column) (at_all (cell row)) (λ column. surd_decided (left row column) (right row column)) refl (λ _. refl) (4 ^ n) in
    Decides-like (at_all (λ row. at_all (cell row) (4 ^ n)) (4 ^ n)) (λ h row column l m. h row l column m) (λ h row l column m. h row column l m)
    (Decides-below_and (λ row. at_all (cell row) (4 ^ n)) row_same (at_all (λ row. at_all (cell row) (4 ^ n))) one refl (λ _. refl) (4 ^ n))

-- a word taken off the target that is kept, and off the target itself
pub kept_removed : (n : ℕ) (kept target : ScaledTable) → same_table n kept target ≡ true → (word : List ℕ) → SameTable n (removed n kept word) (removed n target word)
kept_removed n kept target e word = built_on_same n (undo word) kept target ((same_table_decided n kept target).0 e)
