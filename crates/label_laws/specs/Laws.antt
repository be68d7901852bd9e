-- What the laws of this crate say. Labels, their order and their tags are this program's own, and so are the laws.
use Rattle.std.specs.Prelude.{◌≡◌, ◌≢◌, ℕ, ◌+◌, ◌*◌, ◌/◌, ◌^◌, ◌<◌, ◌≤◌, ℤ, pos, ◌*ℤ◌, int_lt, Bool, true, List, length, fold, slice_index_or}
use Rattle.std.specs.Ordering.{int_cmp, is_lt}
use Rattle.std.specs.Cmp.{IsTotalOrder}
use Rattle.std.specs.Cmp.Lexicographic.{slice_cmp}
use Rattle.std.specs.List.{sum_by, count_by, range_with_len}
use Rattle.std.specs.List.Sorted.{IsStrictlySortedBy, IsPermutation}
use Rattle.std.specs.declared.cmp.Ordering.{Ordering}
use Rattle.std.specs.declared.cmp.Ordering.TheVariants.{Less}
use Rattle.ring_laws.specs.Matrix.{product}
use Rattle.tc_ring.specs.Surds.{Surd, surds, surd_times, root2_surd, zero_surd}
use Rattle.channel_rep.specs.Tables.{SurdTable, ScaledTable, by_rotation, stepped, SameTable, IsCircuitChannel, rotation_table}
use Rattle.coset_label.specs.Labels.{Column, Label, numbers_from, column_of, leads_negative, with_fixed_sign, IsLabelOf}
use Rattle.coset_label.specs.Sums.{column_sum}
use Rattle.coset_label.specs.Tags.{fold_number, label_numbers, tag_of}
use Rattle.label_laws.specs.Congruence.{IsCongruent}
use Rattle.label_laws.specs.Folds.{weights, weighed, rotated_weights, root2_weights}
use Rattle.label_laws.specs.Ranks.{rank, summed_by_place}
use Rattle.label_laws.specs.Totals.{place_of, column_power, placed_folds, label_total, tag_from}
use Rattle.label_laws.specs.Fronts.{front_weights, halved}
use Rattle.label_laws.specs.Digits.{signed_number, AreSignedDigits, IsRanking, IsRanked, packed_column, without_sign}

-- a column's fold is the sum over the rows of a weight times the cell, modulo 2^38
abbrev pub FoldsAreSums : Type 0
FoldsAreSums = (n : ℕ) (m : SurdTable) (column : ℕ) → IsCongruent (2 ^ 38) (weighed (4 ^ n) (weights (4 ^ n)) m column) (column_sum (column_of n m column))

-- a rotation in front of a table changes the weights alone: the fold of the product is that of the table by other weights
abbrev pub RotationsChangeWeights : Type 0
RotationsChangeWeights = (n : ℕ) (inverse : Bool) (p : ℕ) → p < 4 ^ n → (w m : SurdTable) (column : ℕ)
    → weighed (4 ^ n) w (product surds (4 ^ n) (rotation_table n inverse p) m) column ≡ weighed (4 ^ n) (rotated_weights n inverse p w) m column

-- where a column is √2 times another, its fold by weights times √2 is twice that of the other
abbrev pub FoldsDividedOnce : Type 0
FoldsDividedOnce = (size : ℕ) (w m half : SurdTable) (column : ℕ) → ((row : ℕ) → row < size → surd_times root2_surd (half row column) ≡ m row column)
    → weighed size (root2_weights w) m column ≡ pos 2 *ℤ weighed size w half column

-- and where it is 2 times another, its fold by the weights themselves is twice that of the other
abbrev pub FoldsDividedTwice : Type 0
FoldsDividedTwice = (size : ℕ) (w m half : SurdTable) (column : ℕ) → ((row : ℕ) → row < size → surd_times root2_surd (surd_times root2_surd (half row column)) ≡ m row column)
    → weighed size w m column ≡ pos 2 *ℤ weighed size w half column

-- the fold of a circuit's label is a sum over the columns of its table, each at the place that counting gives it, modulo 2^38
abbrev pub LabelsAreSums : Type 0
LabelsAreSums = (n : ℕ) → 0 < n → n ≤ 3 → (m : ScaledTable) → IsCircuitChannel n m → (label : Label) → IsLabelOf n m label
    → IsCongruent (2 ^ 38) (label_total n m) (fold fold_number 0 (label_numbers label))

-- and its tag comes of any number that is congruent to that sum
abbrev pub SumsHaveTags : Type 0
SumsHaveTags = (n : ℕ) → 0 < n → n ≤ 3 → (m : ScaledTable) → IsCircuitChannel n m → (label : Label) → IsLabelOf n m label
    → (f : ℕ) → IsCongruent (2 ^ 38) (label_total n m) f → tag_of label ≡ tag_from f

-- where each fold is twice another, half of their sum in 64 bits is the sum of the others in 63 bits
abbrev pub SumsAreHalved : Type 0
SumsAreHalved = (n : ℕ) (m : SurdTable) (folds halves : ℕ → ℤ) (f : ℕ) → ((c : ℕ) → c < 4 ^ n → folds c ≡ pos 2 *ℤ halves c)
    → IsCongruent (2 ^ 64) (placed_folds n m folds) f → IsCongruent (2 ^ 63) (placed_folds n m halves) (f / 2)

-- a letter before a word: where b is the channel of the letter and the word, divided by √2 so often, the tag of its label comes of
-- the folds of a's columns, by the weights for that, in 64 bits. Signs and places are those of b's columns
abbrev pub FrontsHaveTags : Type 0
FrontsHaveTags = (n p : ℕ) → p < 4 ^ n → 0 < n → n ≤ 3 → (a b : ScaledTable) → SameTable n b (stepped n (by_rotation p) a) → IsCircuitChannel n b
    → (label : Label) → IsLabelOf n b label → (divisions : ℕ) → divisions ≤ 2 → b.exponent + divisions ≡ a.exponent + 1
    → (f : ℕ) → IsCongruent (2 ^ 64) (placed_folds n b.table (weighed (4 ^ n) (front_weights n p divisions) a.table)) f
    → tag_of label ≡ tag_from (b.exponent * column_power n ^ 4 ^ n + halved divisions f)

-- in a strictly rising list of columns the place of a member is the number of lesser ones
abbrev pub PlacesAreRanks : Type 0
PlacesAreRanks = (R : Column → Column → Ordering) → IsTotalOrder R → (xs : List Column) → IsStrictlySortedBy R xs → (i : ℕ) (d : Column) → i < length xs
    → rank R xs (slice_index_or xs i d) ≡ i

-- so a sum by places is one over the members, in whatever order they are taken
abbrev pub SumsByPlaceAreSums : Type 0
SumsByPlaceAreSums = (R : Column → Column → Ordering) → IsTotalOrder R → (h : Column → ℕ) (q : ℕ → ℕ) (xs ys : List Column) → IsStrictlySortedBy R xs → IsPermutation ys xs
    → summed_by_place h q xs ≡ sum_by (λ x. h x * q (rank R ys x)) ys

-- a column's place is how many columns pass any test that tells which of two columns is the lesser
abbrev pub PlacesByTests : Type 0
PlacesByTests = (n : ℕ) (m : SurdTable) (column : ℕ) (less : ℕ → Bool)
    → ((other : ℕ) → other < 4 ^ n → less other ≡ is_lt (slice_cmp int_cmp (with_fixed_sign (column_of n m other)) (with_fixed_sign (column_of n m column))))
    → place_of n m column ≡ count_by less (range_with_len 0 (4 ^ n))

-- of two columns with their signs fixed that lead in different rows, the later is the lesser
abbrev pub LaterLeadsAreLess : Type 0
LaterLeadsAreLess = (f g : ℕ → Surd) (size lead : ℕ) → lead < size → ((r : ℕ) → r < lead → f r ≡ zero_surd) → f lead ≢ zero_surd → ((r : ℕ) → r ≤ lead → g r ≡ zero_surd)
    → slice_cmp int_cmp (with_fixed_sign (numbers_from g 0 size)) (with_fixed_sign (numbers_from f 0 size)) ≡ Less

-- numbers of as many digits, each less than half of the base, compare as their digits
abbrev pub NumbersCompare : Type 0
NumbersCompare = (base : ℕ) (xs ys : List ℤ) → AreSignedDigits base xs → AreSignedDigits base ys → length xs ≡ length ys
    → slice_cmp int_cmp xs ys ≡ int_cmp (signed_number base xs) (signed_number base ys)

-- and have the sign of the first digit other than 0
abbrev pub NumbersHaveSigns : Type 0
NumbersHaveSigns = (base : ℕ) (digits : List ℤ) → AreSignedDigits base digits → leads_negative digits ≡ int_lt (signed_number base digits) (pos 0)

-- a column's number, by digits of its cells in the rows that are kept, has the sign of the column
abbrev pub PackedHaveSigns : Type 0
PackedHaveSigns = (base size : ℕ) (keep : ℕ → Bool) (occurs : ℕ → Surd → Bool) (digit : ℕ → Surd → ℤ)
    → ((row : ℕ) → row < size → keep row ≡ true → IsRanking base (λ x. occurs row x ≡ true) (digit row))
    → (f : ℕ → Surd) → IsRanked size keep (λ row x. occurs row x ≡ true) f
    → leads_negative (numbers_from f 0 size) ≡ int_lt (packed_column base size keep digit f) (pos 0)

-- and columns with their signs fixed compare as their numbers without signs
abbrev pub PackedCompare : Type 0
PackedCompare = (base size : ℕ) (keep : ℕ → Bool) (occurs : ℕ → Surd → Bool) (digit : ℕ → Surd → ℤ)
    → ((row : ℕ) → row < size → keep row ≡ true → IsRanking base (λ x. occurs row x ≡ true) (digit row))
    → (f g : ℕ → Surd) → IsRanked size keep (λ row x. occurs row x ≡ true) f → IsRanked size keep (λ row x. occurs row x ≡ true) g
    → slice_cmp int_cmp (with_fixed_sign (numbers_from f 0 size)) (with_fixed_sign (numbers_from g 0 size))
    ≡ int_cmp (without_sign (packed_column base size keep digit f)) (without_sign (packed_column base size keep digit g))
