-- Columns of a table that is 0 between different blocks, from the runs of their blocks.
use Rattle.std.proofs.Common.{◌≡◌, ℕ, ◌<◌, Bool, false, List, [], ◌∷◌, ap, ◌∙◌}
use Rattle.std.specs.Prelude.{ℤ, pos, ◌*ℤ◌}
use Rattle.ring_laws.proofs.Integers.{integers_laws}
use Rattle.ring_laws.proofs.Reader.{ring, reads}
use Rattle.tc_ring.specs.Surds.{Surd, zero_surd, surd_integer}
use Rattle.channel_rep.specs.Tables.{SurdTable}
use Rattle.quick_label.specs.Blocks.{block_rows}
use Rattle.quick_label.specs.Columns.{StoredColumns, HoldsColumns}
use Rattle.quick_label.specs.ColumnParts.{AreRuns}
use Rattle.quick_label.specs.Tables.{IsSparseTable}
use Rattle.quick_label.proofs.BlockSums.{block_sum}

times_zero : (x : ℤ) → x *ℤ pos 0 ≡ pos 0
times_zero x = ring integers_laws (x ∷ []) (search reads depth 30 parts 0 fits 10000) tt

whole_zero : (x : ℤ) (s : Surd) → s ≡ zero_surd → x *ℤ s.a ≡ pos 0
unfolding surd_integer
whole_zero x s e = ap (λ (t : Surd). x *ℤ t.a) e ∙ times_zero x

part_zero : (x : ℤ) (s : Surd) → s ≡ zero_surd → x *ℤ s.b ≡ pos 0
unfolding surd_integer
part_zero x s e = ap (λ (t : Surd). x *ℤ t.b) e ∙ times_zero x

pub columns_held : (size : ℕ) (span : List Bool) (m : SurdTable) (columns : StoredColumns) → columns.size ≡ size → IsSparseTable size span m
    → AreRuns m (block_rows size span) size columns.starts columns.rows columns.values → HoldsColumns size m columns
columns_held size span m columns same sparse runs = record {
  as_many = same;
  wholes = λ c l w. runs.wholes c l w ∙ block_sum size span c (λ row. w row *ℤ (m row c).a) (λ row r out. whole_zero (w row) (m row c) (sparse row c r l out));
  parts = λ c l w. runs.parts c l w ∙ block_sum size span c (λ row. w row *ℤ (m row c).b) (λ row r out. part_zero (w row) (m row c) (sparse row c r l out));
}
