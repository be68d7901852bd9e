use Rattle.std.proofs.Common.{ℕ, ◌^◌}
use Rattle.channel_rep.specs.Tables.{SurdTable}
use Rattle.label_laws.specs.Congruence.{IsCongruent}
use Rattle.label_laws.specs.Sparse.{IsSparseColumn, AreWeights}
use Rattle.label_laws.proofs.SparseSums.{open_from, sum_to}
use Rattle.label_laws.proofs.cells.fold_cells.Given as goal

abbrev pub invariant-loop-k : goal.invariant-loop-k
invariant-loop-k l = (size : ℕ) (w m : SurdTable) (column : ℕ) → IsSparseColumn size m column l.rows l.cells → AreWeights size w l.whole_weights l.part_weights
    → IsCongruent (2 ^ 64) (sum_to w m column (open_from l.rows l.k)).b l.sum
