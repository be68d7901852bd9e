-- The number of a column behind a letter, from the cells before it.
use Rattle.std.proofs.Common.{◌≡◌, ℕ, zero, suc, ◌+◌, ◌^◌, ◌<◌, ◌≤◌, Bool, List, [], ◌∷◌, length, refl, ap, sym, ◌∙◌, subst, arith}
use Rattle.std.specs.Prelude.{ℤ, pos, ◌+ℤ◌, ◌*ℤ◌, nat_abs}
use Rattle.std.proofs.lemmas.Int.{ints}
use Rattle.ring_laws.proofs.Integers.{integers_laws}
use Rattle.ring_laws.proofs.Reader.{ring, reads}
use Rattle.channel_rep.specs.Tables.{ScaledTable, by_rotation, stepped, SameTable}
use Rattle.label_laws.specs.Folds.{weighed}
use Rattle.quick_label.specs.Blocks.{block_rows}
use Rattle.quick_label.specs.Numbers.{column_number, high_weights, low_weights}
use Rattle.quick_label.specs.Tables.{IsPackable}
use Rattle.quick_label.specs.Weights.{before_letter, doubled}
use Rattle.quick_label.proofs.Halves.{number_is_sums, halves_below}
use Rattle.quick_label.proofs.Letters.{sums_before}

twice_formula : (x y p : ℤ) → pos 2 *ℤ x *ℤ p +ℤ pos 2 *ℤ y ≡ pos 2 *ℤ (x *ℤ p +ℤ y)
twice_formula x y p = ring integers_laws (x ∷ y ∷ p ∷ []) (search reads depth 30 parts 0 fits 10000) tt

-- doubled halves make the doubled number
doubled_sum : (divisions : ℕ) (x y p : ℤ) → doubled divisions x *ℤ p +ℤ doubled divisions y ≡ doubled divisions (x *ℤ p +ℤ y)
doubled_sum zero x y p = refl
doubled_sum (suc _) x y p = twice_formula x y p

-- and fit where the halves are small enough
doubled_fits : (divisions : ℕ) (x : ℤ) → nat_abs x < 2 ^ 63 → (0 < divisions → nat_abs x < 2 ^ 62) → nat_abs (doubled divisions x) < 2 ^ 63
doubled_fits zero x few fewer = few
doubled_fits (suc divisions) x few fewer = let small : nat_abs x < 2 ^ 62 = fewer (omega arith) in omega (arith, ints)

pub number_before : (n p : ℕ) → p < 4 ^ n → (a b : ScaledTable) → SameTable n b (stepped n (by_rotation p) a)
    → (divisions : ℕ) → divisions ≤ 2 → b.exponent + divisions ≡ a.exponent + 1
    → (span : List Bool) → IsPackable n span 8 5 b.table → (0 < divisions → IsPackable n span 5 4 b.table)
    → (column : ℕ) → column < 4 ^ n → length (block_rows (4 ^ n) span column) ≤ 16
    → let high = weighed (4 ^ n) (before_letter n p divisions (high_weights (4 ^ n) span)) a.table column in
    let low = weighed (4 ^ n) (before_letter n p divisions (low_weights (4 ^ n) span)) a.table column in
    (nat_abs high < 2 ^ 63) × (nat_abs low < 2 ^ 63) × (high *ℤ pos (2 ^ 64) +ℤ low ≡ doubled divisions (column_number (4 ^ n) span b.table column))
number_before n p lp a b same divisions twice e span packable smaller column lc few = (
  subst Fits (sym high_is) (doubled_fits divisions high below.0 (λ some. (below_more some).0)),
  subst Fits (sym low_is) (doubled_fits divisions low below.1 (λ some. (below_more some).1)),
  (λ i. high_is i *ℤ pos (2 ^ 64) +ℤ low_is i)
      ∙ doubled_sum divisions high low (pos (2 ^ 64)) ∙ sym (ap (doubled divisions) (number_is_sums n span 8 5 b.table packable column lc)),
)
  where
    Fits : ℤ → Type 0
    Fits z = nat_abs z < 2 ^ 63

    high : ℤ
    high = weighed (4 ^ n) (high_weights (4 ^ n) span) b.table column

    low : ℤ
    low = weighed (4 ^ n) (low_weights (4 ^ n) span) b.table column

    high_is : weighed (4 ^ n) (before_letter n p divisions (high_weights (4 ^ n) span)) a.table column ≡ doubled divisions high
    high_is = sums_before n p lp a b same divisions twice e (high_weights (4 ^ n) span) column lc

    low_is : weighed (4 ^ n) (before_letter n p divisions (low_weights (4 ^ n) span)) a.table column ≡ doubled divisions low
    low_is = sums_before n p lp a b same divisions twice e (low_weights (4 ^ n) span) column lc

    below : (nat_abs high < 2 ^ 63) × (nat_abs low < 2 ^ 63)
    below = halves_below n span 8 5 b.table packable column lc (2 ^ 63) (omega arith) few

    below_more : 0 < divisions → (nat_abs high < 2 ^ 62) × (nat_abs low < 2 ^ 62)
    below_more some = halves_below n span 5 4 b.table (smaller some) column lc (2 ^ 62) (omega arith) few
