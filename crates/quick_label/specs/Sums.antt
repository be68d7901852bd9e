-- Sums of columns by weights, modulo 2^64.
-- Source: Knuth, The Art of Computer Programming, volume 1, section 2.2.6, for sparse matrices.
use Rattle.std.specs.Prelude.{◌≡◌, ℕ, ◌-◌, ◌^◌, ◌<◌, ℤ, ◌+ℤ◌, List, length, slice_index}
use Rattle.channel_rep.specs.Tables.{SurdTable}
use Rattle.label_laws.specs.Congruence.{IsCongruent}
use Rattle.label_laws.specs.Folds.{weighed}
use Rattle.label_laws.specs.Sparse.{AreWeights}
use Rattle.quick_label.specs.Columns.{StoredColumns, HoldsColumns, run_sum}
use Rattle.quick_label.specs.Letters.{HeldWeights}

-- for all whole numbers that these weights are, the sum after is the sum before with that of the run more
abbrev pub IsSumWithRun : List ℕ → List ℤ → ℕ → ℕ → List ℕ → ℕ → ℕ → Type 0
IsSumWithRun rows values start end weights before after = (w : ℕ → ℤ) (s : ℤ) → ((row : ℕ) → row < length weights → IsCongruent (2 ^ 64) (w row) (slice_index weights row))
    → IsCongruent (2 ^ 64) s before → IsCongruent (2 ^ 64) (s +ℤ run_sum w rows values start (end - start)) after

-- for each table that these columns are, and all weights that these are, the sum of a column
abbrev pub IsSumOfColumn : StoredColumns → HeldWeights → ℕ → ℕ → Type 0
IsSumOfColumn columns weights column sum = (size : ℕ) (w m : SurdTable) → HoldsColumns size m columns → AreWeights size w weights.wholes weights.parts
    → column < size → IsCongruent (2 ^ 64) (weighed size w m column) sum

-- and of each column
abbrev pub AreSumsOfColumns : StoredColumns → HeldWeights → List ℕ → Type 0
AreSumsOfColumns columns weights sums = (size : ℕ) (w m : SurdTable) → HoldsColumns size m columns → AreWeights size w weights.wholes weights.parts
    → (column : ℕ) → column < size → IsCongruent (2 ^ 64) (weighed size w m column) (slice_index sums column)
