use Rattle.std.proofs.Common.{◌≡◌, ℕ, ◌%◌, ◌^◌, ◌<◌, slice_index}
use Rattle.channel_rep.specs.Cells.{table_of}
use Rattle.coset_label.specs.Labels.{numbers_from}
use Rattle.coset_label.specs.Sums.{column_sum}
use Rattle.coset_label.proofs.sums.add_rows.Given as goal

abbrev pub invariant-loop-row : goal.invariant-loop-row
invariant-loop-row l = (c : ℕ) → c < l.size → slice_index l.sums c % 2 ^ 38 ≡ column_sum (numbers_from (λ r. table_of l.channel r c) 0 l.row) % 2 ^ 38
