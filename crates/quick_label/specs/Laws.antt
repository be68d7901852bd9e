-- What the laws of this crate say. Weights before letters, and columns as numbers, are this program's own, and so are the laws.
use Rattle.std.specs.Prelude.{◌≡◌, ℕ, ◌+◌, ◌*◌, ◌^◌, ◌<◌, ◌≤◌, pos, ◌+ℤ◌, ◌*ℤ◌, nat_abs, int_lt, Bool, true, List, length, slice_index}
use Rattle.std.specs.Ordering.{int_cmp}
use Rattle.std.specs.Cmp.Lexicographic.{slice_cmp}
use Rattle.channel_rep.specs.Tables.{SurdTable, ScaledTable, by_rotation, stepped, SameTable, IsBuiltOf, IsCircuitChannel}
use Rattle.channel_rep.specs.Words.{IsWord}
use Rattle.coset_label.specs.Words.{word_steps}
use Rattle.coset_label.specs.Labels.{column_of, leads_negative, with_fixed_sign}
use Rattle.label_laws.specs.Digits.{without_sign}
use Rattle.label_laws.specs.Folds.{weighed}
use Rattle.quick_label.specs.Blocks.{in_block, block_rows}
use Rattle.quick_label.specs.Numbers.{column_number, high_weights, low_weights}
use Rattle.quick_label.specs.Spans.{AreSpan}
use Rattle.quick_label.specs.Tables.{SurdUpTo, IsPackable, IsLeadRow}
use Rattle.quick_label.specs.Weights.{before_letter, doubled}

-- a letter before a table: where b is the channel of the letter and the word, divided by √2 so often, the sums of b's columns
-- by any weights are those of a's columns by the weights for that, doubled where b is divided at all
abbrev pub SumsBeforeLetters : Type 0
SumsBeforeLetters = (n p : ℕ) → p < 4 ^ n → (a b : ScaledTable) → SameTable n b (stepped n (by_rotation p) a)
    → (divisions : ℕ) → divisions ≤ 2 → b.exponent + divisions ≡ a.exponent + 1 → (w : SurdTable) (column : ℕ) → column < 4 ^ n
    → weighed (4 ^ n) (before_letter n p divisions w) a.table column ≡ doubled divisions (weighed (4 ^ n) w b.table column)

-- a column's number comes of its sums by the high weights and by the low ones
abbrev pub NumbersAreSums : Type 0
NumbersAreSums = (n : ℕ) (span : List Bool) (most_a most_b : ℕ) (m : SurdTable) → IsPackable n span most_a most_b m → (column : ℕ) → column < 4 ^ n
    → column_number (4 ^ n) span m column ≡ weighed (4 ^ n) (high_weights (4 ^ n) span) m column *ℤ pos (2 ^ 64) +ℤ weighed (4 ^ n) (low_weights (4 ^ n) span) m column

-- where a block has at most 16 rows, both halves of a column's number are below a bound in absolute value
abbrev pub HalvesAreBelow : ℕ → ℕ → ℕ → Type 0
HalvesAreBelow most_a most_b bound = (n : ℕ) (span : List Bool) (m : SurdTable) → IsPackable n span most_a most_b m
    → (column : ℕ) → column < 4 ^ n → length (block_rows (4 ^ n) span column) ≤ 16
    → (nat_abs (weighed (4 ^ n) (high_weights (4 ^ n) span) m column) < bound) × (nat_abs (weighed (4 ^ n) (low_weights (4 ^ n) span) m column) < bound)

-- they fit 64 bits with a sign, and where the table's numbers are smaller also when they are doubled
abbrev pub HalvesFit : Type 0
HalvesFit = HalvesAreBelow 8 5 (2 ^ 63) × HalvesAreBelow 5 4 (2 ^ 62)

-- so the number of a column behind a letter, or twice that number, comes of two sums over the cells before the letter, which fit
-- 64 bits with a sign
abbrev pub NumbersBeforeLetters : Type 0
NumbersBeforeLetters = (n p : ℕ) → p < 4 ^ n → (a b : ScaledTable) → SameTable n b (stepped n (by_rotation p) a)
    → (divisions : ℕ) → divisions ≤ 2 → b.exponent + divisions ≡ a.exponent + 1
    → (span : List Bool) → IsPackable n span 8 5 b.table → (0 < divisions → IsPackable n span 5 4 b.table)
    → (column : ℕ) → column < 4 ^ n → length (block_rows (4 ^ n) span column) ≤ 16
    → let high = weighed (4 ^ n) (before_letter n p divisions (high_weights (4 ^ n) span)) a.table column in
    let low = weighed (4 ^ n) (before_letter n p divisions (low_weights (4 ^ n) span)) a.table column in
    (nat_abs high < 2 ^ 63) × (nat_abs low < 2 ^ 63) × (high *ℤ pos (2 ^ 64) +ℤ low ≡ doubled divisions (column_number (4 ^ n) span b.table column))

-- a column leads with a negative number exactly where its own number is negative
abbrev pub NumbersTellSigns : Type 0
NumbersTellSigns = (n : ℕ) (span : List Bool) (m : SurdTable) → IsPackable n span 8 5 m → (column : ℕ) → column < 4 ^ n
    → leads_negative (column_of n m column) ≡ int_lt (column_number (4 ^ n) span m column) (pos 0)

-- and two columns of one block, with their signs fixed, compare as their numbers without signs
abbrev pub NumbersTellOrder : Type 0
NumbersTellOrder = (n : ℕ) (span : List Bool) (m : SurdTable) → IsPackable n span 8 5 m → (x y : ℕ) → x < 4 ^ n → y < 4 ^ n → in_block span x y ≡ true
    → slice_cmp int_cmp (with_fixed_sign (column_of n m x)) (with_fixed_sign (column_of n m y))
    ≡ int_cmp (without_sign (column_number (4 ^ n) span m x)) (without_sign (column_number (4 ^ n) span m y))

-- the size of a column's number tells how many rows of its block stand behind its lead row
abbrev pub NumbersTellLeads : Type 0
NumbersTellLeads = (n : ℕ) (span : List Bool) (m : SurdTable) → IsPackable n span 8 5 m → (column : ℕ) → column < 4 ^ n
    → (behind : ℕ) → 256 ^ behind ≤ 2 * nat_abs (column_number (4 ^ n) span m column) → 2 * nat_abs (column_number (4 ^ n) span m column) < 256 ^ (behind + 1)
    → (behind < length (block_rows (4 ^ n) span column)) × IsLeadRow (4 ^ n) m column (slice_index (block_rows (4 ^ n) span column) behind)

-- a circuit's channel with an exponent of at most 6 has small numbers, and one of at most 5 smaller ones
abbrev pub SmallByNorm : Type 0
SmallByNorm = (n : ℕ) → 0 < n → n ≤ 3 → (m : ScaledTable) → IsCircuitChannel n m → (row column : ℕ) → row < 4 ^ n → column < 4 ^ n
    → (m.exponent ≤ 6 → SurdUpTo 8 5 (m.table row column)) × (m.exponent ≤ 5 → SurdUpTo 5 4 (m.table row column))

-- so the channel of a word, whose letters' span is marked, can be told by its columns' numbers
abbrev pub WordsArePackable : Type 0
WordsArePackable = (n : ℕ) → 0 < n → n ≤ 3 → (word : List ℕ) → IsWord n word → (span : List Bool) → AreSpan n word span → (m : ScaledTable) → IsBuiltOf n (word_steps word) m
    → (m.exponent ≤ 6 → IsPackable n span 8 5 m.table) × (m.exponent ≤ 5 → IsPackable n span 5 4 m.table)
